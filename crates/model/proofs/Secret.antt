-- Private entries change no answer: with others, the world differs only in these entries. Assumes nothing.
use Rattle.std.proofs.Common.{◌≡◌, ℕ, ◌+◌, Bool, true, false, cond, not, ◌&&◌, ◌||◌, eqb, List, [], ◌∷◌, ◌++◌, length, is_some, Some, None, Option, sym, refl, ap, ◌∙◌, subst, ap₂, arith}
use borrow.Author.Tests.{both_ways}
use Rattle.std.proofs.lemmas.List.{map-append}
use Rattle.std.proofs.lemmas.Bool.{and_parts}
use Rattle.values.specs.Numbers.{same_kind, in_range}
use Rattle.values.specs.declared.Answer.{Answer}
use Rattle.values.specs.declared.Answer.TheVariants.{Listed}
use Rattle.values.specs.declared.Entry.{Entry}
use Rattle.values.specs.declared.Fault.{Fault}
use Rattle.values.specs.declared.Kind.{Kind}
use Rattle.values.specs.declared.Mode.{Mode}
use Rattle.values.specs.declared.Mode.TheVariants.{Complete, Partial}
use Rattle.values.specs.declared.Phase.TheVariants.{Undoing}
use Rattle.values.specs.declared.RowState.TheVariants.{Running}
use Rattle.process.specs.declared.parts.Step.{Step}
use Rattle.host.specs.Keys.{RowKey, key_of}
use Rattle.host.specs.View.{View, put, begun}
use Rattle.model.specs.Search.{at_put}
use Rattle.model.specs.Chart.{Chart, step_at}
use Rattle.model.specs.Rows.{Rows, with_states, in_state, idle}
use Rattle.model.specs.Rollback.{strikes, fallen, restart_points}
use Rattle.model.specs.Sheet.{Sheet, with_rows, aborted, graph_arrows}
use Rattle.model.specs.Calls.{lawful, start_fault, end_fault, abort_fault, all_dropped, undo_fault}
use Rattle.model.specs.Calls.{finish_fault, park_fault, resume_fault, listing_fault, reply_fault}
use Rattle.model.specs.Run.{World, Lent, Event, start, end, abort, undo, finish, park, resume, listing, reply, lend}
use Rattle.model.specs.Run.{control, column_after, over, world, decide, does, runs, History, Leads, nothing, one_more}
use Rattle.model.specs.Histories.{Alike, same, swapped, AllAlike, none, more, events_of}
use Rattle.model.specs.Summaries.{summary_of, PrivateEntriesChangeNoSummary}
use Rattle.model.proofs.Hosts.{all_dropped_view}

-- ── the same but for entries ──

abbrev with_entries : Rows → (ℕ → Entry) → Rows
with_entries r en = record { count = r.count; step = r.step; preds = r.preds; entry = en; state = r.state }

abbrev sheet_with : Sheet → (ℕ → Entry) → Sheet
sheet_with s en = with_rows s (with_entries s.rows en)

abbrev host_with : View → (RowKey → Option Entry) → View
host_with v kept = record { shut = v.shut; room = v.room; state = v.state; entry = kept }

abbrev world_with : World → (ℕ → Entry) → (RowKey → Option Entry) → World
world_with w en kept = world (sheet_with w.sheet en) (host_with w.host kept) w.lent

-- the entries of rows of public steps are the same
abbrev PublicSame : Chart → Rows → (ℕ → Entry) → Type 0
PublicSame c r en = (k : ℕ) → (step_at c (r.step k)).private ≡ false → en k ≡ r.entry k

-- v is w but for entries of private steps
record Twin (c : Chart) (w v : World) : Type 0 where
  on-sheet : v.sheet ≡ sheet_with w.sheet v.sheet.rows.entry
  on-host : v.host ≡ host_with w.host v.host.entry
  on-lent : v.lent ≡ w.lent
  public : PublicSame c w.sheet.rows v.sheet.rows.entry

-- other entries, but the same where the step is public
plain : {c : Chart} {w : World} {en : ℕ → Entry} {kept : RowKey → Option Entry} → PublicSame c w.sheet.rows en
    → Twin c w (world_with w en kept)
plain p = record { on-sheet = refl; on-host = refl; on-lent = refl; public = p }

-- twin worlds, and the same answer
record TwinResults (c : Chart) (x y : World × Answer) : Type 0 where
  worlds : Twin c x.0 y.0
  answer : y.1 ≡ x.1

-- either way of a decision
decided : (c : Chart) (f : Option Fault) {f' : Option Fault} {old old' new new' : World} {a a' : Answer}
    → f' ≡ f → a' ≡ a → Twin c old old' → Twin c new new'
    → TwinResults c (decide f old new a) (decide f' old' new' a')
decided c f {f'} {old} {old'} {new} {new'} {a} {a'} ef ea o n =
    subst (λ g. TwinResults c (decide f old new a) (decide g old' new' a')) (sym ef) (go f)
  where
    go : (g : Option Fault) → TwinResults c (decide g old new a) (decide g old' new' a')
    go None = record { worlds = n; answer = ea }
    go (Some x) = record { worlds = o; answer = refl }

-- ── what looks at no entry, or only at public ones ──

abort_fault_same : (s : Sheet) (en : ℕ → Entry) (v : View) (m : Mode) (column line : ℕ)
    → abort_fault (sheet_with s en) v m column line ≡ abort_fault s v m column line
abort_fault_same s en v Complete column line = refl
abort_fault_same s en v (Partial f) column line = refl

strikes_same : (c : Chart) (r : Rows) (en : ℕ → Entry) (m : Mode) (k : ℕ)
    → strikes c (with_entries r en) m k ≡ strikes c r m k
strikes_same c r en Complete k = refl
strikes_same c r en (Partial f) k = refl

points_same : (c : Chart) (r : Rows) (en : ℕ → Entry) (m : Mode)
    → restart_points c (with_entries r en) m ≡ restart_points c r m
points_same c r en Complete = refl
points_same c r en (Partial f) = refl

all_dropped_same : (r : Rows) (v : View) (kept : RowKey → Option Entry)
    → all_dropped r (host_with v kept) ≡ host_with (all_dropped r v) (all_dropped r (host_with v kept)).entry
all_dropped_same r v kept = e ∙ ap (λ u. host_with (all_dropped r v) u.entry) (sym e)
  where
    e : all_dropped r (host_with v kept) ≡ host_with (all_dropped r v) kept
    e = all_dropped_view r (host_with v kept) ∙ ap (λ u. host_with u kept) (sym (all_dropped_view r v))

-- whether a row is idle does not hang on a private entry
idle_same : (c : Chart) (r : Rows) (en : ℕ → Entry) → PublicSame c r en → (k : ℕ)
    → idle c (with_entries r en) k ≡ idle c r k
idle_same c r en p k = go (step_at c (r.step k)).private (p k)
  where
    no_counterpart : Bool
    no_counterpart = not (step_at c (r.step k)).counterpart

    go : (private : Bool) → (private ≡ false → en k ≡ r.entry k)
        → (no_counterpart || (not private && not (is_some (en k).number)))
        ≡ (no_counterpart || (not private && not (is_some (r.entry k).number)))
    go true e = refl
    go false e = ap (λ (x : Entry). no_counterpart || not (is_some x.number)) (e refl)

aborted_same : (c : Chart) (s : Sheet) (en : ℕ → Entry) (m : Mode) → PublicSame c s.rows en
    → aborted c (sheet_with s en) m ≡ sheet_with (aborted c s m) en
aborted_same c s en m p = λ i. record {
  rows = with_entries (with_states s.rows
      (λ k. fallen (s.rows.state k) (strikes_same c s.rows en m k i) (idle_same c s.rows en p k i))) en;
  rolled = λ k.
      cond (in_state s.rows Running k || strikes_same c s.rows en m k i) (s.rollback + 1) (s.rolled k);
  phase = Undoing;
  rollback = s.rollback + 1;
  serial = s.serial;
  mode = m;
}

same_kind_eq : (a b : Kind) → same_kind a b ≡ true → a ≡ b
same_kind_eq a b h = grind arith

-- a lawful entry has the step's kind
lawful_kind : (st : Step) (a : Entry) → lawful st a ≡ true → a.kind ≡ st.kind
lawful_kind st a h = same_kind_eq a.kind st.kind (and_parts _ (in_range a.kind a.number) h).0

-- a new row's entry is the same, or its step is private
public_put : (c : Chart) (r : Rows) (n k : ℕ) (a b : Entry) (en : ℕ → Entry) → PublicSame c r en
    → ((step_at c k).private ≡ false → b ≡ a) → (j : ℕ) → (step_at c (at_put r.step n k j)).private ≡ false
    → at_put en n b j ≡ at_put r.entry n a j
public_put c r n k a b en p e j h = go (eqb j n) h
  where
    go : (t : Bool) → (step_at c (cond t k (r.step j))).private ≡ false → cond t b (en j) ≡ cond t a (r.entry j)
    go true q = e q
    go false q = p j q

-- ── one event ──

module _ (c : Chart) (w : World) (en : ℕ → Entry) (kept : RowKey → Option Entry)
    (p : PublicSame c w.sheet.rows en) where
  -- with one entry or another of the same kind, both lawful or neither, and the same where the step is public
  twins_start : (k : ℕ) (fs : List ℕ) (a b : Entry) → b.kind ≡ a.kind
      → lawful (step_at c k) b ≡ lawful (step_at c k) a → ((step_at c k).private ≡ false → b ≡ a)
      → TwinResults c (does c w (start k fs a)) (does c (world_with w en kept) (start k fs b))
  twins_start k fs a b kinds fair e =
      decided c _ (ap₂ (start_fault c w.sheet w.host k fs) fair kinds) refl (plain p) (record {
        on-sheet = refl;
        on-host = ap (λ kind. host_with (begun w.host n (of_kind kind)) (put kept n (Some b))) kinds;
        on-lent = refl;
        public = public_put c w.sheet.rows (w.sheet.rows.count + 1) k a b en p e;
      })
    where
      n : RowKey
      n = key_of (w.sheet.rows.count + 1)

      of_kind : Kind → Entry
      of_kind kind = record { kind = kind; number = b.number }

  twins_abort : (m : Mode) → TwinResults c (does c w (abort m)) (does c (world_with w en kept) (abort m))
  twins_abort m =
      decided c _ faults refl (plain p) (record {
        on-sheet = aborted_same c w.sheet en m p;
        on-host = all_dropped_same w.sheet.rows w.host kept;
        on-lent = refl;
        public = p;
      })
    where
      faults : abort_fault (sheet_with w.sheet en) w.host m (length w.lent.column) w.lent.line
          ≡ abort_fault w.sheet w.host m (length w.lent.column) w.lent.line
      faults = abort_fault_same w.sheet en w.host m (length w.lent.column) w.lent.line

  twins_listing : TwinResults c (does c w listing) (does c (world_with w en kept) listing)
  twins_listing =
      decided c _ (ap fault points) (ap (λ ps. Listed arrows (length ps)) points) (plain p) (record {
        on-sheet = refl;
        on-host = refl;
        on-lent = ap written points;
        public = p;
      })
    where
      l : Lent
      l = w.lent

      arrows : ℕ
      arrows = length (graph_arrows w.sheet)

      points : restart_points c (with_entries w.sheet.rows en) w.sheet.mode
          ≡ restart_points c w.sheet.rows w.sheet.mode
      points = points_same c w.sheet.rows en w.sheet.mode

      fault : List ℕ → Option Fault
      fault ps =
          listing_fault w.sheet (length l.column) l.line (length l.arrows) (length l.restarts)
          arrows (length ps)

      written : List ℕ → Lent
      written ps = record {
        column = column_after l.column l.line;
        line = l.line;
        arrows = over (graph_arrows w.sheet) l.arrows;
        restarts = over ps l.restarts;
        buffer = l.buffer;
      }

  twins_does : (e : Event) → TwinResults c (does c w e) (does c (world_with w en kept) e)
  twins_does (start k fs a) = twins_start k fs a a refl refl (λ _. refl)
  twins_does (end k) = decided c (end_fault w.sheet w.host k) refl refl (plain p) (plain p)
  twins_does (abort m) = twins_abort m
  twins_does (undo t k) =
      decided c (undo_fault w.sheet w.host t k (length w.lent.column) w.lent.line) refl refl
      (plain p) (plain p)
  twins_does (finish t) = decided c (finish_fault w.sheet t) refl refl (plain p) (plain p)
  twins_does (park t) = decided c (park_fault w.sheet t) refl refl (plain p) (plain p)
  twins_does resume = decided c (resume_fault w.sheet) refl refl (plain p) (plain p)
  twins_does listing = twins_listing
  twins_does (reply place) = decided c (reply_fault place (length w.lent.buffer)) refl refl (plain p) (plain p)
  twins_does (lend l) = record { worlds = plain p; answer = refl }
  twins_does (control b) = record { worlds = plain p; answer = refl }

  twins_alike : {e f : Event} → Alike c e f → TwinResults c (does c w e) (does c (world_with w en kept) f)
  twins_alike (same {e = e}) = twins_does e
  twins_alike (swapped {k = k} {fs = fs} {a = a} {b = b} private la lb) =
      twins_start k fs a b (lawful_kind (step_at c k) b lb ∙ sym (lawful_kind (step_at c k) a la)) (lb ∙ sym la)
      (λ h. absurd (both_ways (step_at c k).private h private))

-- ── many events ──

twin_does : (c : Chart) {e f : Event} → Alike c e f → (w v : World) → Twin c w v
    → TwinResults c (does c w e) (does c v f)
twin_does c {e} {f} h w v t =
    subst (λ u. TwinResults c (does c w e) (does c u f)) (sym v_is)
    (twins_alike c w v.sheet.rows.entry v.host.entry t.public h)
  where
    v_is : v ≡ world_with w v.sheet.rows.entry v.host.entry
    v_is = λ i. record { sheet = t.on-sheet i; host = t.on-host i; lent = t.on-lent i }

twin_runs : (c : Chart) {es fs : List Event} → AllAlike c es fs → (w v : World) → Twin c w v
    → Twin c (runs c w es).0 (runs c v fs).0
twin_runs c none w v t = t
twin_runs c (more h hs) w v t = twin_runs c hs _ _ (twin_does c h w v t).worlds

runs_more : (c : Chart) (w : World) (es : List Event) (e : Event)
    → (runs c w (es ++ e ∷ [])).0 ≡ (does c (runs c w es).0 e).0
runs_more c w [] e = refl
runs_more c w (x ∷ es) e = runs_more c (does c w x).0 es e

-- a history leads where its events do
pub leads_runs : (c : Chart) (first : World) {h : History} {w : World} → Leads c first h w
    → w ≡ (runs c first (events_of h)).0
leads_runs c first nothing = refl
leads_runs c first (one_more {h = h} {w = w} l e) =
    ap (λ u. (does c u e).0) (leads_runs c first l)
    ∙ sym (runs_more c first (events_of h) e)
    ∙ ap (λ es. (runs c first es).0) (sym (map-append (λ (x : Event × Answer). x.0) h ((e, (does c w e).1) ∷ [])))

-- histories that differ only in lawful entries of private starts lead to worlds that do
ends : (c : Chart) (first : World) {h g : History} {w v : World} → Leads c first h w → Leads c first g v
    → AllAlike c (events_of h) (events_of g) → Twin c w v
ends c first {w = w} {v = v} lw lv alike =
    subst (λ u. Twin c u v) (sym (leads_runs c first lw))
    (subst (Twin c _) (sym (leads_runs c first lv)) (twin_runs c alike first first (plain (λ k _. refl))))

-- every other run that differs only in lawful entries of private starts gives the same answer and the same bytes
pub secret_run : (c : Chart) (first : World) {h g : History} {w v : World} {e f : Event}
    → Leads c first h w → Leads c first g v → AllAlike c (events_of h) (events_of g) → Alike c e f
    → ((does c v f).1 ≡ (does c w e).1) × ((does c v f).0.lent ≡ (does c w e).0.lent)
secret_run c first {w = w} {v = v} lw lv before now =
    let results = twin_does c now w v (ends c first lw lv before) in
    (results.answer, results.worlds.on-lent)

-- and the same summary: it looks at no entry
pub secret_summary : PrivateEntriesChangeNoSummary
secret_summary c s first g h v w lv lw alike is =
    ap (summary_of c) (ends c first lv lw alike).on-sheet ∙ ap (summary_of c) is
