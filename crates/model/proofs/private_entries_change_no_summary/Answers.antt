use Rattle.model.proofs.Secret.{secret_summary}
use Rattle.model.proofs.private_entries_change_no_summary.Goals as goal

pub returns : goal.returns
returns c = secret_summary
