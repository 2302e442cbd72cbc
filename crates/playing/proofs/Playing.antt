-- One call more of a journal that is played. Assumes nothing.
use Rattle.std.proofs.Common.{◌≡◌, ℕ, ◌+◌, ◌≤◌, Bool, true, false, List, ◌++◌, Some, None, Option, sym, refl, ◌∙◌, arith}
use Rattle.values.specs.declared.Answer.{Answer}
use Rattle.host.specs.Known.{Sorted}
use Rattle.host.specs.declared.calls.Call.{Call as HostCall}
use Rattle.model.specs.Book.{accepted}
use Rattle.model.specs.Chart.{Chart}
use Rattle.model.specs.Run.{World, does}
use Rattle.sheet.specs.Happenings.{happening, command_of, refused_by}
use Rattle.sheet.specs.Runs.{HostAfter}
use Rattle.sheet.specs.declared.events.Event.{Event}
use Rattle.sheet.specs.declared.events.Event.TheVariants as event
use Rattle.club.specs.Commands.{Command}
use Rattle.club.specs.Hosts.{Hosts, hosts_view, hosts_hold, InOrder, Switches, switches_of, are_shut}
use Rattle.club.proofs.Leaving.{Goes, Makes, declines, Leaves, declines_none, switches_commanded, switches_untouched, goes_in_order, commanded_in_order}
use Rattle.journal.specs.Calls.{Call, call_of, call_text}
use Rattle.playing.specs.Played.{Part, called, lent, commands, Fits, Played, part_of, steered, event_of, counted, told_text, told_line, play_one}
use Rattle.playing.specs.declared.summary.CallCounts.{CallCounts}

-- the hosts decline no command
pub refuses_none : (h : Hosts) (c : Option Command) → refused_by declines h c ≡ None
refuses_none h None = refl
refuses_none h (Some c) = declines_none h c

-- what an event leaves of the hosts
abbrev pub After : Hosts → Option Command → List HostCall → Hosts → Type 0
After h c asks h' = HostAfter hosts_view Makes Goes declines Leaves h c asks h'

-- fees in the ledger, everything else in the score book, after it as before
pub keeps_order : (c : Option Command) (asks : List HostCall) (h h' : Hosts) → After h c asks h'
    → (Sorted hosts_view hosts_hold h → Sorted hosts_view hosts_hold h') → InOrder h → InOrder h'
keeps_order None asks h h' left sorted = goes_in_order h h' sorted left.1
keeps_order (Some c) asks h h' left sorted = commanded_in_order h h' c sorted left

pub steers : (e : Event Command) (asks : List HostCall) (h h' : Hosts) → After h (command_of e) asks h'
    → switches_of h' ≡ steered (part_of (call_of e)) (switches_of h)
steers (event.Start k fs e) asks h h' left = switches_untouched h h' left.1
steers (event.End k) asks h h' left = switches_untouched h h' left.1
steers (event.Abort m) asks h h' left = switches_untouched h h' left.1
steers (event.Undo t k) asks h h' left = switches_untouched h h' left.1
steers (event.Finish t) asks h h' left = switches_untouched h h' left.1
steers (event.Park t) asks h h' left = switches_untouched h h' left.1
steers event.Resume asks h h' left = switches_untouched h h' left.1
steers event.Listing asks h h' left = switches_untouched h h' left.1
steers (event.Reply place) asks h h' left = switches_untouched h h' left.1
steers (event.Lend sizes) asks h h' left = switches_untouched h h' left.1
steers (event.Control c) asks h h' left = switches_commanded h h' c left

same_event : (b : Bool) (e : Event Command) → happening b e ≡ event_of b (call_of e)
same_event b (event.Start k fs e) = refl
same_event b (event.End k) = refl
same_event b (event.Abort m) = refl
same_event b (event.Undo t k) = refl
same_event b (event.Finish t) = refl
same_event b (event.Park t) = refl
same_event b event.Resume = refl
same_event b event.Listing = refl
same_event b (event.Reply place) = refl
same_event b (event.Lend sizes) = refl
same_event b (event.Control c) = refl

-- an event that was taken and told of is a call that was played
pub plays_one : (c : Chart) (p : Played) (n : ℕ) (e : Event Command) (b : Bool) (a : Answer) (w : World) (s : Switches)
    (printed : List ℕ) (calls : CallCounts)
    → does c p.world (happening b e) ≡ (w, a) → b ≡ are_shut s → s ≡ steered (part_of (call_of e)) p.switches
    → printed ≡ p.printed ++ told_line (part_of (call_of e)) n (call_text (call_of e)) (told_text (call_of e) a w.lent)
    → calls ≡ counted (part_of (call_of e)) (accepted a) p.calls
    → record { world = w; switches = s; printed = printed; calls = calls } ≡ play_one c p (n, call_of e)
plays_one c p n e b a w s printed calls did shut steer told count =
    let call = call_of e in
    let part = part_of call in
    let is : (w, a) ≡ does c p.world (event_of (are_shut (steered part p.switches)) call) =
    sym did ∙ (λ i. does c p.world (same_event b e i)) ∙ (λ i. does c p.world (event_of (shut i) call))
    ∙ (λ i. does c p.world (event_of (are_shut (steer i)) call)) in
    (λ i. record { world = w; switches = steer i; printed = told i; calls = count i })
    ∙ (λ i. record {
      world = (is i).0;
      switches = steered part p.switches;
      printed = p.printed ++ told_line part n (call_text call) (told_text call (is i).1 (is i).0.lent);
      calls = counted part (accepted (is i).1) p.calls;
    })

-- ── the numbers of calls ──

pub fits_one : (more : ℕ) (n : CallCounts) → 1 ≤ more → Fits more n → Fits 1 n
fits_one more n some f = record { all = omega (arith, some, f.all); accepted = f.accepted; declined = f.declined }

fits_counted : (part : Part) (accepted : Bool) (n : CallCounts) (more left : ℕ) → left + 1 ≤ more → Fits more n
    → Fits left (counted part accepted n)
fits_counted called true n more left less f =
    record { all = omega (arith, less, f.all); accepted = omega (arith, f.accepted); declined = omega (arith, f.declined) }
fits_counted called false n more left less f =
    record { all = omega (arith, less, f.all); accepted = omega (arith, f.accepted); declined = omega (arith, f.declined) }
fits_counted lent accepted n more left less f = record { all = omega (arith, less, f.all); accepted = f.accepted; declined = f.declined }
fits_counted (commands c) accepted n more left less f =
    record { all = omega (arith, less, f.all); accepted = f.accepted; declined = f.declined }

pub fits_played : (c : Chart) (p : Played) (l : ℕ × Call) (more left : ℕ) → left + 1 ≤ more → Fits more p.calls
    → Fits left (play_one c p l).calls
fits_played c p (n, call) more left less f =
    fits_counted (part_of call) _ p.calls more left less f
