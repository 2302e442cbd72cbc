-- Where resume is declined, the host is not asked.
use Rattle.model.specs.Calls.{resume_fault}
use Rattle.values.specs.declared.Phase.TheVariants.{Undoing}
use Rattle.model.specs.Sheet.{ticket_of, with_phase}
use Rattle.sheet.specs.SheetOf.{sheet_of}
use Rattle.tickets.specs.Rollbacks.{carried_asks}
use Rattle.tickets.proofs.Beginning.{none_made, resume_declined}
use Rattle.tickets.proofs.carry_on.Goals as goal

pub returns-in_err-ticket-clause-made : goal.returns-in_err-ticket-clause-made
returns-in_err-ticket-clause-made g c =
    let m = c.args.memory.now in
    let s = sheet_of c.args.sheet.now in
    let f = resume_fault s in
    none_made g.X.Host.view g.X.Host.makes f
    (carried_asks (with_phase s Undoing) (g.X.Host.view c.args.host.now) m.column.len m.line.len)
    (resume_declined f (ticket_of s) c.in_err-ticket.ensures.comes.answers)
