use Rattle.rows.proofs.Followers.{told}
use Rattle.rows.proofs.table.RowTable.highest.Goals as goal

pub returns : goal.returns
returns c = (told c.args.self.now.told).highest
