-- The law over every run, from its parts. Assumes nothing.
use Rattle.std.proofs.Common.{◌≡◌, ℕ, length, Some, None, Option, sym, refl, subst, arith}
use Rattle.values.specs.declared.Answer.TheVariants.{Done}
use Rattle.values.specs.declared.Fault.{Fault}
use Rattle.values.specs.declared.RowState.TheVariants.{Due}
use Rattle.values.specs.declared.TicketNumber.{TicketNumber}
use Rattle.host.specs.View.{View, Fresh, Sound}
use Rattle.model.specs.Chart.{Chart}
use Rattle.model.specs.Rollback.{After}
use Rattle.model.specs.Calls.{undo_fault}
use Rattle.model.specs.Run.{World, Lent, Event, undo, does, said, History, Leads, nothing, one_more, opening}
use Rattle.model.specs.Book.{book_of, undos_of}
use Rattle.model.specs.Sheets.{Orderly, HostFollows}
use Rattle.model.specs.Histories.{Finished, EventLaw, LawfulHistory, LawOverEveryRun}
use Rattle.model.specs.Histories.{nothing as lawful_nothing, one_more as lawful_more}
use Rattle.model.proofs.Accepted.{undo_free}
use Rattle.model.proofs.Books.{finish_is_the_book}
use Rattle.model.proofs.Hosts.{follows_first, follows_does}
use Rattle.model.proofs.Kept.{kept_first, kept_leads}
use Rattle.model.proofs.Secret.{secret_run}

-- an answer that is no fault: none stood
none_stood : (f : Option Fault) → said f Done ≡ Done → f ≡ None
none_stood None h = refl
none_stood (Some x) h = let z : ◌≡◌ {A = ℕ} 0 1 = cc in absurd (omega arith)

undo_in_order : (c : Chart) (w : World) → Orderly w.sheet → (t : TicketNumber) (u : ℕ) → (does c w (undo t u)).1 ≡ Done
    → (v : ℕ) → After w.sheet.rows.preds u v → w.sheet.rows.state v ≡ Due → ⊥
undo_in_order c w o t u h =
    undo_free w.sheet w.host t u (length w.lent.column) w.lent.line
    (none_stood (undo_fault w.sheet w.host t u (length w.lent.column) w.lent.line) h) o

module _ (c : Chart) (serial : ℕ) (v : View) (l : Lent) (fresh : Fresh v) (sound : Sound v) where
  abbrev first : World
  first = opening serial v l

  orderly : {h : History} {w : World} → Leads c first h w → Orderly w.sheet
  orderly q = (kept_leads c (kept_first serial) q).orderly

  follows : {h : History} {w : World} → Leads c first h w → HostFollows w.sheet w.host
  follows nothing = follows_first serial v fresh sound
  follows (one_more {w = w} q e) = follows_does c w e (orderly q) (follows q)

  event_law : {h : History} {w : World} → Leads c first h w → (e : Event) → EventLaw c first h w e
  event_law {h} {w} q e = record {
    no_undo_before_a_due_row_after_it = λ t u p. subst
        (λ (x : Event). (does c w x).1 ≡ Done → (k : ℕ) → After w.sheet.rows.preds u k → w.sheet.rows.state k ≡ Due → ⊥)
        (sym p) (undo_in_order c w (orderly q) t u);
    finish_is_the_book = λ t p. subst
        (λ (x : Event). (does c w x).1 ≡ Done → Finished (does c w x).0.sheet.rows (undos_of h) (book_of c h))
        (sym p) (finish_is_the_book c q t);
    host_follows = follows_does c w e (orderly q) (follows q);
    private_entries_change_no_answer = secret_run c first q;
  }

  lawful_history : {h : History} {w : World} → Leads c first h w → LawfulHistory c first h w
  lawful_history nothing = lawful_nothing (follows_first serial v fresh sound)
  lawful_history (one_more q e) = lawful_more (lawful_history q) e (event_law q e)

pub law_over_every_run : LawOverEveryRun
law_over_every_run c serial v l fresh sound h w q = lawful_history c serial v l fresh sound q
