-- The lemmas that the laws of the ledger as a host cite: what it shows is sound, and its lines after none or some calls.
-- Assumes nothing.
use Rattle.std.specs.Prelude.{◌≡◌, false, not, is_some, Option, length}
use Rattle.std.proofs.Common.{arith}
use Rattle.values.specs.declared.HostState.TheVariants.{Unknown}
use Rattle.host.specs.Laws.{prefix_stays, prefix_goes_on, prefix_longer, rest_stays, rest_goes_on}
use Rattle.host.specs.View.{Sound, is_unknown}
use Rattle.ledger.specs.declared.lines.Line.{Line}
use Rattle.ledger.specs.declared.book.Ledger.{Ledger}
use Rattle.ledger.specs.Book.{LedgerGoes, ledger_view, lines_of, rest_of}
use Rattle.ledger.specs.Lines.{last_of, state_by, entry_by}

no_line : (o : Option Line) → is_some o ≡ false → state_by o ≡ Unknown
no_line o h = grind arith

known_line : (o : Option Line) → is_some (entry_by o) ≡ not (is_unknown (state_by o))
known_line o = grind arith

pub ledger_sound : (b : Ledger) → Sound (ledger_view b)
ledger_sound b = record {
  outside = λ row h. no_line (last_of (lines_of b) row) (b.rows row h);
  entries = λ row. known_line (last_of (lines_of b) row);
}

pub ledger_stays : (b : Ledger) → LedgerGoes b b
ledger_stays b = record { lines = prefix_stays (lines_of b); rest = rest_stays (length (lines_of b)) (rest_of b) }

pub ledger_goes_on : (a b c : Ledger) → LedgerGoes a b → LedgerGoes b c → LedgerGoes a c
ledger_goes_on a b c p q = record {
  lines = prefix_goes_on (lines_of a) (lines_of b) (lines_of c) p.lines q.lines;
  rest = rest_goes_on (length (lines_of a)) (length (lines_of b)) (length (lines_of c)) (rest_of a) (rest_of b) (rest_of c)
      (prefix_longer (lines_of a) (lines_of b) p.lines) (prefix_longer (lines_of b) (lines_of c) q.lines) p.rest q.rest;
}
