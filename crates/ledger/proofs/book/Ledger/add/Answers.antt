-- One line more: there is room for it, and all that the ledger keeps true stays so.
use Rattle.std.proofs.Common.{◌≡◌, ◌+◌, ◌*◌, ◌/◌, ◌<◌, ◌≤◌, min, true, false, cond, [], ◌∷◌, ◌++◌, length, rules, pos, ◌+ℤ◌, ◌≤ℤ◌, is_some, sym, refl, ap, ◌∙◌, subst, arith, length-append}
use Rattle.host.specs.Known.{known_by}
use Rattle.host.specs.Keys.{RowKey, is_row}
use Rattle.host.specs.Places.{places_most}
use Rattle.host.specs.Table.{capacity_of}
use Rattle.host.proofs.Tables.{has_room, all_pushed}
use Rattle.ledger.specs.Book.{lines_of}
use Rattle.ledger.specs.Fees.{posted, standing_sum, reserved}
use Rattle.ledger.specs.Lines.{last_of, last_place, begun_in, kept_by, is_hold, lines_most, fees}
use Rattle.ledger.proofs.Added.{begun_push, rows_push, balanced_push, reserve_push, added_fits}
use Rattle.ledger.proofs.Fees.{fees_push}
use Rattle.ledger.proofs.Last.{placed_push}
use Rattle.ledger.proofs.book.Ledger.add.Goals as goal

pub unwrap-requires : goal.unwrap-requires
unwrap-requires c =
    let b = c.args.self.now in
    let most = min lines_most (capacity_of b.table) in
    let begun = b.begun + cond (is_hold c.args.new.mark) 1 0 in
    let few : begun ≤ most / 3 = omega (arith, c.requires.room, b.counted) in
    let fits = added_fits (lines_of b) c.args.new (length b.table.used) b.begun begun most c.requires.row c.requires.follows refl few b.reserve in
    let room : 0 < length b.table.rest = omega (arith, fits) in
    let ok = has_room room c.push.ensures.test in
    search rules

pub invariant_of-self : goal.invariant_of-self
invariant_of-self c =
    let b = c.args.self.now in
    let new = c.args.new in
    let used = length b.table.used in
    let most = min lines_most (capacity_of b.table) in
    let begun = b.begun + c.begins.result in
    let more = all_pushed (b.table.used ++ new ∷ []) b.table.used (search rules) c.push.ensures.used in
    let count : begun ≡ b.begun + cond (is_hold new.mark) 1 0 = ap (λ n. b.begun + n) c.begins.ensures in
    let few : begun ≤ most / 3 = omega (arith, c.requires.room, b.counted, c.begins.ensures) in
    let fits : used + 1 ≤ most =
    added_fits (lines_of b) new used b.begun begun most c.requires.row c.requires.follows count few b.reserve in
    let one : length c.push.new.self.used ≡ used + 1 = ap length more ∙ length-append b.table.used (new ∷ []) in
    let reserve = reserve_push (lines_of b) new used b.begun begun c.requires.row c.requires.follows count b.reserve in
    let last = ap length c.used.ensures in
    let short : length c.used.result.now < places_most = omega (arith, last, b.within) in
    let rows = rows_push (lines_of b) new c.requires.row b.rows in
    let balanced = balanced_push (lines_of b) new c.requires.row c.requires.follows b.balanced in
    record {
      within = omega (arith, one, fits);
      counted = count ∙ ap (λ n. n + cond (is_hold new.mark) 1 0) b.counted ∙ sym (begun_push (lines_of b) new) ∙ ap begun_in (sym more);
      placed = λ n.
          placed_push (lines_of b) new n _ _ _ c.requires.row last short (b.placed n) (c.set.ensures n)
          ∙ ap (λ xs. last_place xs n) (sym more);
      few = subst (λ n. begun ≤ min lines_most n / 3) (sym c.push.ensures.capacity) few;
      fees = subst (λ xs. fees xs ≡ true) (sym more) (fees_push (lines_of b) new b.fees c.requires.fee);
      rows = subst (λ xs. (n : RowKey) → is_row n ≡ false → is_some (last_of xs n) ≡ false) (sym more) rows;
      reserve =
          subst (λ n. (pos n +ℤ reserved c.push.new.self.used) ≤ℤ pos (3 * begun)) (sym one)
          (subst (λ xs. (pos (used + 1) +ℤ reserved xs) ≤ℤ pos (3 * begun)) (sym more) reserve);
      balanced = subst (λ xs. posted xs ≡ standing_sum (known_by (kept_by 0 xs))) (sym more) balanced;
    }
