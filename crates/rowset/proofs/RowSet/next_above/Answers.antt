use Rattle.std.proofs.Common.{◌*◌, ◌/◌, ◌%◌, inl, inr, sym, refl, ◌∙◌, arith, get_or}
use Rattle.std.proofs.Math.Nat.{div-one}
use Rattle.std.proofs.lemmas.Bool.{cases_lt}
use Rattle.rowset.proofs.Bits.{none_in_word, none_past}
use Rattle.rowset.proofs.Members.{no_member, first_member}
use Rattle.rowset.proofs.RowSet.next_above.Goals as goal

pub returns-then-place-ge-NUMBERS : goal.returns-then-place-ge-NUMBERS
returns-then-place-ge-NUMBERS c =
    let words = c.args.self.now.words in
    no_member words c.args.number (λ q h. none_past words q (omega arith))

pub returns-then-word-ne0 : goal.returns-then-word-ne0
returns-then-word-ne0 c =
    let n = c.from-place.result in
    first_member c.args.self.now.words c.args.number (n / 64) (n % 64) _ (omega arith) (omega arith) refl c.if-word-ne0.true
    (omega arith) (λ q h l. absurd (omega arith)) _ (omega arith)

pub loop-i-init : goal.loop-i-init
loop-i-init c = λ q h l.
    let n = c.from-place.result in
    none_in_word c.args.self.now.words (n / 64) (n % 64) c.if-word-ne0.false q (omega arith) (omega arith)

pub returns-then-word-ne0-2 : goal.returns-then-word-ne0-2
returns-then-word-ne0-2 c =
    let words = c.args.self.now.words in
    let w = c.loop-i.i in
    first_member words c.args.number w 0 (get_or words w 0) (omega arith) (omega arith) (sym (div-one _)) c.if-word-ne0-2.true
    (omega arith) (λ q h l. c.loop-i.invariant q h (omega arith)) _ (omega arith)

pub loop-i-preserved : goal.loop-i-preserved
loop-i-preserved c = λ q h l.
    let words = c.args.self.now.words in
    let w = c.loop-i.i in
    elim (cases_lt q (64 * w)) [
      | inl low ↦ c.loop-i.invariant q h low
      | inr high ↦ none_in_word words w 0 (div-one (get_or words w 0) ∙ c.if-word-ne0-2.false) q (omega arith) (omega arith)
    ]

pub returns : goal.returns
returns c =
    let words = c.args.self.now.words in
    no_member words c.args.number (λ q h. elim (cases_lt q (64 * c.loop-i.i)) [
      | inl low ↦ c.loop-i.invariant q h low
      | inr high ↦ none_past words q (omega arith)
    ])
