-- Every sheet that events lead to is orderly. Assumes nothing.
use Rattle.std.proofs.Common.{◌≡◌, ℕ, List, None, refl, arith}
use borrow.Author.Tests.{clash}
use Rattle.values.specs.declared.Entry.{Entry}
use Rattle.values.specs.declared.Mode.{Mode}
use Rattle.values.specs.declared.Phase.TheVariants.{Forward, Undoing, Parked}
use Rattle.values.specs.declared.RowState.TheVariants.{Running, Committed, Due, Undone}
use Rattle.values.specs.declared.TicketNumber.{TicketNumber}
use Rattle.host.specs.View.{View}
use Rattle.model.specs.Chart.{Chart, step_at}
use Rattle.model.specs.Rows.{marked, added}
use Rattle.model.specs.Sheet.{Sheet, blank, with_rows, with_phase, aborted}
use Rattle.model.specs.Calls.{lawful, start_fault, end_fault, abort_fault, undo_fault, finish_fault}
use Rattle.model.specs.Run.{World, Event, does, History, Leads, nothing, one_more}
use Rattle.model.specs.Sheets.{Orderly, Kept}
use Rattle.model.specs.Histories.{Reached}
use Rattle.model.proofs.Accepted.{start_fits, start_room, end_running, abort_forward, abort_mode}
use Rattle.model.proofs.Accepted.{undo_due, undo_free, finish_free}
use Rattle.model.proofs.Falls.{abort_orderly, abort_spent}
use Rattle.model.proofs.Marks.{start_orderly, start_spent, ending, undoing, mark_orderly, mark_spent, phase_orderly}
use Rattle.model.proofs.Steps.{Steps, kept_by}

pub kept_first : (serial : ℕ) → Kept (blank serial)
kept_first serial = record {
  orderly = record {
    inside = λ k h. absurd (h refl);
    present = λ k one low _. omega arith;
    rows_only = λ k _. refl;
    lower = λ v w m. absurd (clash m);
    committed = λ v w a m. absurd (clash m);
    none_due = λ _ k h. grind arith;
    in_order = λ u v _ h _. grind arith;
    due_now = λ k _. refl;
    past = λ k. omega arith;
    few_rows = omega arith;
    few_rollbacks = omega arith;
  };
  spent = omega arith;
}

-- ── one event ──

module _ (c : Chart) (s : Sheet) (v : View) (h : Kept s) where
  pub on_start : (k : ℕ) (fs : List ℕ) (e : Entry) → start_fault c s v k fs (lawful (step_at c k) e) e.kind ≡ None
      → Kept (with_rows s (added s.rows k fs e))
  on_start k fs e accepted =
      let fair = lawful (step_at c k) e in
      let fits = start_fits c s v k fs fair e.kind accepted in
      record {
        orderly = start_orderly s k fs e h.orderly fits (start_room c s v k fs fair e.kind accepted);
        spent = start_spent s k fs e h.orderly fits h.spent;
      }

  pub on_end : (k : ℕ) → end_fault s v k ≡ None → Kept (with_rows s (marked s.rows k Committed))
  on_end k accepted =
      let was = end_running s v k accepted in
      record {
        orderly = mark_orderly s k Running Committed h.orderly ending was (λ e. grind arith);
        spent = mark_spent s k Running Committed h.orderly ending was h.spent;
      }

  pub on_abort : (m : Mode) (column line : ℕ) → abort_fault s v m column line ≡ None → Kept (aborted c s m)
  on_abort m column line accepted =
      let forward = abort_forward s v m column line accepted in
      let check = abort_mode s v m column line accepted in
      record {
        orderly = abort_orderly c s m h.orderly forward check h.spent;
        spent = abort_spent c s m h.orderly forward check h.spent;
      }

  pub on_undo : (t : TicketNumber) (k column line : ℕ) → undo_fault s v t k column line ≡ None
      → Kept (with_rows s (marked s.rows k Undone))
  on_undo t k column line accepted =
      let was = undo_due s v t k column line accepted in
      let free = undo_free s v t k column line accepted h.orderly in
      record {
        orderly = mark_orderly s k Due Undone h.orderly undoing was (λ _. free);
        spent = mark_spent s k Due Undone h.orderly undoing was h.spent;
      }

  pub on_finish : (t : TicketNumber) → finish_fault s t ≡ None → Kept (with_phase s Forward)
  on_finish t accepted = record {
    orderly = phase_orderly s Forward h.orderly (λ _. finish_free s t h.orderly accepted);
    spent = h.spent;
  }

  steps : Steps c (λ s _. Kept s) s v
  steps = record {
    on_start = on_start;
    on_end = on_end;
    on_abort = on_abort;
    on_undo = on_undo;
    on_finish = on_finish;
    on_park = λ _ _. record { orderly = phase_orderly s Parked h.orderly (λ e. grind arith); spent = h.spent };
    on_resume = λ _. record { orderly = phase_orderly s Undoing h.orderly (λ e. grind arith); spent = h.spent };
    on_control = λ _. h;
  }

pub kept_does : (c : Chart) (w : World) (e : Event) → Kept w.sheet → Kept (does c w e).0.sheet
kept_does c w e h = kept_by c (λ s _. Kept s) w e h (steps c w.sheet w.host h)

-- ── many events ──

pub kept_leads : (c : Chart) {first : World} → Kept first.sheet → {h : History} {w : World} → Leads c first h w
    → Kept w.sheet
kept_leads c k nothing = k
kept_leads c k (one_more {w = w} l e) = kept_does c w e (kept_leads c k l)

pub kept_reached : (c : Chart) {w : World} → Reached c w → Kept w.sheet
kept_reached c r = kept_leads c (kept_first r.serial) r.leads

pub orderly_reached : (c : Chart) {w : World} → Reached c w → Orderly w.sheet
orderly_reached c r = (kept_reached c r).orderly
