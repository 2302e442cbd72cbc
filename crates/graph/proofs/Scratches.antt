-- Lemmas on the memory that a traversal is lent.
use Rattle.std.proofs.Common.{refl, ◌∙◌}
use Rattle.graph.specs.Scratch.{SameLoans}
use Rattle.graph.specs.declared.scratch.Scratch.{Scratch}
use Rattle.graph.proofs.Columns.{kept_then}

-- where nothing is done, the loans are the same
pub same_loans : {s : Scratch} → SameLoans s s
same_loans = record {
  marks = refl;
  column = refl;
  line = refl;
  places = refl;
  kept = record { rest = λ k h. refl; size = refl };
}

-- and where they stay the same twice
pub same_loans_then : {r s t : Scratch} → SameLoans r s → SameLoans s t → SameLoans r t
same_loans_then p q = record {
  marks = q.marks ∙ p.marks;
  column = q.column ∙ p.column;
  line = q.line ∙ p.line;
  places = q.places ∙ p.places;
  kept = kept_then p.kept q.kept;
}
