-- A call that is lent no host leaves it as it is.
use Rattle.sheet.proofs.Asking.{still}
use Rattle.sheet.proofs.replay.Competition.answer.Goals as goal

pub returns-in-Finish-clause-host : goal.returns-in-Finish-clause-host
returns-in-Finish-clause-host g c =
    rw c.in-Finish.is (still g.X.Host.view g.X.Host.makes g.X.Host.goes g.met.X.Host.stays c.args.self.now.host c.finish-answer.new.self.host
    c.finish-answer.ensures.host)

pub returns-in-Park-clause-host : goal.returns-in-Park-clause-host
returns-in-Park-clause-host g c =
    rw c.in-Park.is (still g.X.Host.view g.X.Host.makes g.X.Host.goes g.met.X.Host.stays c.args.self.now.host c.park-answer.new.self.host
    c.park-answer.ensures.host)

pub returns-in-Resume-clause-host : goal.returns-in-Resume-clause-host
returns-in-Resume-clause-host g c =
    rw c.in-Resume.is (still g.X.Host.view g.X.Host.makes g.X.Host.goes g.met.X.Host.stays c.args.self.now.host c.resume-answer.new.self.host
    c.resume-answer.ensures.host)

pub returns-in-Listing-clause-host : goal.returns-in-Listing-clause-host
returns-in-Listing-clause-host g c =
    rw c.in-Listing.is (still g.X.Host.view g.X.Host.makes g.X.Host.goes g.met.X.Host.stays c.args.self.now.host c.listing-answer.new.self.host
    c.listing-answer.ensures.host)

pub returns-in-Reply-clause-host : goal.returns-in-Reply-clause-host
returns-in-Reply-clause-host g c =
    rw c.in-Reply.is (still g.X.Host.view g.X.Host.makes g.X.Host.goes g.met.X.Host.stays c.args.self.now.host c.reply-answer.new.self.host
    c.reply-answer.ensures.host)

pub returns-in_ok-answer-in-Lend-clause-host : goal.returns-in_ok-answer-in-Lend-clause-host
returns-in_ok-answer-in-Lend-clause-host g c =
    rw c.in-Lend.is (still g.X.Host.view g.X.Host.makes g.X.Host.goes g.met.X.Host.stays c.args.self.now.host c.lend.new.self.host
    c.lend.ensures.host)
