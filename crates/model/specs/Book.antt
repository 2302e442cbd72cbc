-- The reference book: a competition's lines as if each rollback were done at once. It is a function of the process and
-- of the calls with their answers; no sheet and no host occurs in it. Assumes nothing.
use Rattle.std.specs.Prelude.{ℕ, ◌+◌, Bool, true, false, cond, not, ◌&&◌, List, [], ◌∷◌, ◌++◌, count_by, nat_eq}
use Rattle.values.specs.declared.Answer.{Answer}
use Rattle.values.specs.declared.Answer.TheVariants.{Row, Done, Ticket, Listed, Declined}
use Rattle.values.specs.declared.Mode.{Mode}
use Rattle.values.specs.declared.RowState.{RowState}
use Rattle.values.specs.declared.RowState.TheVariants.{Absent, Running, Committed, Dropped, Due, Undone, PassedOver}
use Rattle.model.specs.Search.{at_put, down_from}
use Rattle.model.specs.Chart.{Chart}
use Rattle.model.specs.Rows.{Rows, no_rows, with_states, marked, added, idle}
use Rattle.model.specs.Rollback.{strikes}
use Rattle.model.specs.Run.{Event, start, end, abort, undo, finish, park, resume, listing, reply, lend, control, History}

-- the lines are rows like a sheet's; `turned` lists the lines that the last abort turned undone, in the order in which it did
pub record Book : Type 0 where
  pub lines : Rows
  pub turned : List ℕ

abbrev pub no_lines : Book
no_lines = record { lines = no_rows; turned = [] }

abbrev pub with_lines : Book → Rows → Book
with_lines b r = record { lines = r; turned = b.turned }

-- a line's state in an abort, just before the lines that are to be undone are turned
abbrev pub set_aside : RowState → Bool → Bool → RowState
set_aside Absent struck idle = Absent
set_aside Running struck idle = Dropped
set_aside Committed struck idle = cond (struck && idle) PassedOver Committed
set_aside Dropped struck idle = Dropped
set_aside Due struck idle = Due
set_aside Undone struck idle = Undone
set_aside PassedOver struck idle = PassedOver

-- lines turned undone, one after another
abbrev pub each_undone : List ℕ → (ℕ → RowState) → ℕ → RowState
each_undone [] st = st
each_undone (k ∷ ks) st = each_undone ks (at_put st k Undone)

-- the lines that an abort turns undone, by falling number: those that are struck and not idle
abbrev pub to_undo : Chart → Rows → Mode → List ℕ
to_undo c r m = down_from (r.count + 1) (λ k. strikes c r m k && not (idle c r k))

abbrev pub rolled_back : Chart → Rows → Mode → Book
rolled_back c r m = record {
  lines = with_states r (each_undone (to_undo c r m) (λ k. set_aside (r.state k) (strikes c r m k) (idle c r k)));
  turned = to_undo c r m;
}

abbrev pub accepted : Answer → Bool
accepted (Row k) = true
accepted Done = true
accepted (Ticket t) = true
accepted (Listed n m) = true
accepted (Declined f) = false

-- what an accepted call makes of the book: start, end and abort write in it, and the others leave it alone
abbrev pub noted : Chart → Book → Event → Book
noted c b (start k fs e) = with_lines b (added b.lines k fs e)
noted c b (end k) = with_lines b (marked b.lines k Committed)
noted c b (abort m) = rolled_back c b.lines m
noted c b (undo t k) = b
noted c b (finish t) = b
noted c b (park t) = b
noted c b resume = b
noted c b listing = b
noted c b (reply place) = b
noted c b (lend l) = b
noted c b (control t) = b

abbrev pub booked : Chart → Book → History → Book
booked c b [] = b
booked c b ((e, a) ∷ h) = booked c (cond (accepted a) (noted c b e) b) h

abbrev pub book_of : Chart → History → Book
book_of c h = booked c no_lines h

-- the rows of the accepted undos since the last accepted abort, in their order
abbrev pub undos_with : List ℕ → Event → List ℕ
undos_with ks (start k fs e) = ks
undos_with ks (end k) = ks
undos_with ks (abort m) = []
undos_with ks (undo t k) = ks ++ k ∷ []
undos_with ks (finish t) = ks
undos_with ks (park t) = ks
undos_with ks resume = ks
undos_with ks listing = ks
undos_with ks (reply place) = ks
undos_with ks (lend l) = ks
undos_with ks (control t) = ks

abbrev pub undos_after : List ℕ → History → List ℕ
undos_after ks [] = ks
undos_after ks ((e, a) ∷ h) = undos_after (cond (accepted a) (undos_with ks e) ks) h

abbrev pub undos_of : History → List ℕ
undos_of h = undos_after [] h

-- how often a number stands in a list
abbrev pub times : ℕ → List ℕ → ℕ
times k xs = count_by (nat_eq k) xs
