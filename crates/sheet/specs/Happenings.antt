-- Events and what they are told, as the model has them. Assumes nothing.
use Rattle.std.specs.Prelude.{Bool, true, false, List, map, Some, None, Ok, Err, Option, Result, vec_items}
use Rattle.std.specs.List.{zip}
use Rattle.values.specs.declared.Answer.{Answer}
use Rattle.values.specs.declared.Answer.TheVariants.{Declined}
use Rattle.values.specs.declared.Fault.{Fault}
use Rattle.model.specs.Run.{said, start, end, abort, undo, finish, park, resume, listing, reply, lend, control, History}
use Rattle.model.specs.Run.{Event as Happening}
use Rattle.sheet.specs.declared.events.Event.{Event}
use Rattle.sheet.specs.declared.events.Event.TheVariants as event
use Rattle.sheet.specs.declared.events.Taken.{Taken}
use Rattle.sheet.specs.Lent.{zeros}

-- what is told of a call: what it answers, or that it was declined
abbrev pub told : {X : Type 0} → (X → Answer) → Result X Fault → Answer
told say (Ok x) = say x
told say (Err f) = Declined f

-- an event as the model has it: a command for the host by whether the host is shut after it
abbrev pub happening : {C : Type 0} → Bool → Event C → Happening
happening shut (event.Start k fs e) = start k (vec_items fs) e
happening shut (event.End k) = end k
happening shut (event.Abort m) = abort m
happening shut (event.Undo t k) = undo t k
happening shut (event.Finish t) = finish t
happening shut (event.Park t) = park t
happening shut event.Resume = resume
happening shut event.Listing = listing
happening shut (event.Reply place) = reply place
happening shut (event.Lend sizes) = lend (zeros sizes)
happening shut (event.Control c) = control shut

-- what was told of events, as a history
abbrev pub history : {C : Type 0} → List (Event C × Taken) → History
history h = map (λ x. (happening x.1.shut x.0, x.1.answer)) h

-- the events of a list, as far as it was told of them, each with its answer
abbrev pub history_of : {C : Type 0} → List (Event C) → List Taken → History
history_of es ts = history (zip es ts)

-- the command of an event, if it is one
abbrev pub command_of : {C : Type 0} → Event C → Option C
command_of (event.Control c) = Some c
command_of e = None

-- whether an event lends other memory
abbrev pub lends : {C : Type 0} → Event C → Bool
lends (event.Lend sizes) = true
lends e = false

-- the fault with which the host declines a command, if it does; no other event has one
abbrev pub refused_by : {X C : Type 0} → (X → C → Option Fault) → X → Option C → Option Fault
refused_by declines before None = None
refused_by declines before (Some c) = declines before c

-- what is told of an event in one: the fault of a declined command, or else the answer
abbrev pub told_by : Taken → Answer
told_by t = said t.refused t.answer
