-- What a call leaves of the column that it is lent. Assumes nothing.
use Rattle.std.proofs.Common.{◌≡◌, ℕ, ◌+◌, ◌-◌, ◌<◌, ◌≤◌, Bool, true, false, cond, leb, List, length, get_or, drop, replicate, sym, refl, ap, ◌∙◌, inl, inr, arith}
use Rattle.std.proofs.lemmas.List.{same_lists, length-replicate, length-drop, get_or-replicate, get_or-drop, get_or_append_left, get_or-append_right, get_or_default}
use Rattle.std.proofs.lemmas.Bool.{cases_lt, and_parts, leb-true}
use Rattle.graph.specs.Column.{mark_count, Wiped}
use Rattle.process.specs.Accepted.{enough, Left}
use Rattle.model.specs.Run.{cleared, column_after}

wiped_cleared : {before after : List ℕ} → mark_count ≤ length before → Wiped before after → after ≡ cleared before
wiped_cleared {before} {after} long w =
    same_lists after (cleared before) size
    (λ k d l. get_or_default after k d 0 l ∙ each k l ∙ get_or_default (cleared before) k 0 d (omega (arith, size)))
  where
    zeros : length {A = ℕ} (replicate 257 0) ≡ 257
    zeros = length-replicate {A = ℕ} 257 0

    size : length after ≡ length (cleared before)
    size = simp length-drop (omega (arith, w.size))

    each : (k : ℕ) → k < length after → get_or after k 0 ≡ get_or (cleared before) k 0
    each k l = elim (cases_lt k mark_count) [
      | inl low ↦ w.zeros k low ∙ sym (get_or_append_left (replicate 257 0) (drop 257 before) 0 k (omega (arith, zeros))
          ∙ get_or-replicate 257 k 0 0 low)
      | inr high ↦
          let back : 257 + (k - 257) ≡ k = omega arith in
          w.rest k high ∙ sym (get_or-append_right (replicate 257 0) (drop 257 before) 257 k 0 zeros high
          ∙ get_or-drop 257 before (k - 257) 0 ∙ ap (λ i. get_or before i 0) back)
    ]

-- what the guard of the marks leaves is what the model's calls leave
pub left_cleared : (before : List ℕ) {after : List ℕ} (line : ℕ) → Left (enough (length before) line) before after
    → after ≡ column_after before line
left_cleared before {after} line = go (enough (length before) line) (λ e. leb-true 257 (length before) (and_parts (leb 257 (length before)) _ e).0)
  where
    go : (b : Bool) → (b ≡ true → 257 ≤ length before) → Left b before after → after ≡ cond b (cleared before) before
    go true long w = wiped_cleared (long refl) w
    go false long same = same
