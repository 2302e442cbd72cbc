use Rattle.std.proofs.Common.{◌≡◌, ℕ, ◌-◌, List, ◌++◌, length, get_or, drop, ap, ◌∙◌, inl, inr, arith}
use Rattle.std.proofs.lemmas.Bool.{cases_lt}
use Rattle.std.proofs.lemmas.List.{get_or_append_left, get_or-append_right, get_or-drop, get_or_past, get_or-replicate, length-append, length-drop, length-take}
use Rattle.graph.proofs.marks.wipe.Goals as goal

pub returns : goal.returns
returns c =
    let xs = c.args.column.now in
    let n = c.mark_bytes-n.result in
    let ys = c.fill.new.self in
    let zeros = c.fill.ensures.after (λ y e. e) in
    let front : length ys ≡ n = c.fill.ensures.len ∙ simp length-take (omega (arith, c.mark_bytes-n.ensures)) in
    let back = length-drop n xs in
    let size : length (ys ++ drop n xs) ≡ length xs = length-append ys (drop n xs) ∙ omega (arith, front, back, c.mark_bytes-n.ensures) in
    record {
      zeros = λ k h. elim (cases_lt k n) [
        | inl low ↦ get_or_append_left ys (drop n xs) 0 k (omega (arith, front)) ∙ ap (λ (zs : List ℕ). get_or zs k 0) zeros
            ∙ get_or-replicate _ k 0 0 (omega (arith, front, c.fill.ensures.len))
        | inr high ↦ get_or_past (ys ++ drop n xs) k 0 (omega (arith, size, c.mark_bytes-n.ensures))
      ];
      rest = λ k h. get_or-append_right ys (drop n xs) n k 0 front (omega (arith, c.mark_bytes-n.ensures))
          ∙ get_or-drop n xs (k - n) 0 ∙ ap (λ (i : ℕ). get_or xs i 0) (omega (arith, c.mark_bytes-n.ensures));
      size = size;
    }
