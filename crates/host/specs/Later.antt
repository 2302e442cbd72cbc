-- What calls can never do to a host. Assumes nothing.
use Rattle.std.specs.Prelude.{◌≡◌, ◌≤◌, Some}
use Rattle.values.specs.declared.Entry.{Entry}
use Rattle.values.specs.declared.Kind.{Kind}
use Rattle.values.specs.declared.HostState.{HostState}
use Rattle.values.specs.declared.HostState.TheVariants.{Unknown, Open, Standing, Void, Reversed}
use Rattle.host.specs.Keys.{RowKey}
use Rattle.host.specs.View.{View}

-- the only turns that a row takes
pub data Turn : HostState → HostState → Type 0 where
  begins : Turn Unknown Open
  stands : Turn Open Standing
  voids : Turn Open Void
  undoes : Turn Standing Reversed

-- from one state to another by such turns alone, or by none
pub data Path : HostState → HostState → Type 0 where
  stays : {s : HostState} → Path s s
  turns : {s t u : HostState} → Path s t → Turn t u → Path s u

-- w is what a host that showed v may show later: each row came to its state by such turns, no room has grown, each entry stayed
pub record Later (v w : View) : Type 0 where
  pub states : (row : RowKey) → Path (v.state row) (w.state row)
  pub room : (k : Kind) → w.room k ≤ v.room k
  pub entries : (row : RowKey) (e : Entry) → v.entry row ≡ Some e → w.entry row ≡ Some e
