-- What the lines of a journal say, and the order that they keep. Assumes nothing.
use Rattle.std.specs.Prelude.{◌≡◌, ℕ, ◌+◌, Bool, true, false, cond, not, List, [], ◌∷◌, ◌++◌, map, length, is_some, Some, None, Ok, Err, vec_items, codes, Option, Result, Vec, ◌==◌, slice_index}
use Rattle.std.specs.Bool.{⊤}
use Rattle.std.specs.List.{list_all}
use Rattle.std.specs.Option.{option_map, unwrap_or}
use Rattle.std.specs.Str.{bytes_eq}
use Rattle.std.specs.declared.alloc.Global.{Global}
use Rattle.journal.specs.declared.Wrong.{Wrong}
use Rattle.journal.specs.declared.Wrong.TheVariants.{StrayByte, UnknownWord, MissingProcess, MissingSerial, Repeated, LateSetting}
use Rattle.journal.specs.declared.LineError.{LineError}
use Rattle.journal.specs.declared.LineError.TheVariants as line_error
use Rattle.journal.specs.declared.ParseError.{ParseError}
use Rattle.journal.specs.declared.ParseError.TheVariants as parse_error
use Rattle.journal.specs.declared.Unreadable.{Unreadable}
use Rattle.journal.specs.declared.Journal.{Journal}
use Rattle.journal.specs.declared.events.Line.{Line}
use Rattle.journal.specs.declared.calls.CallWord.{CallWord}
use Rattle.journal.specs.declared.settings.Draft.{Draft}
use Rattle.journal.specs.declared.settings.Keyword.{Keyword}
use Rattle.journal.specs.declared.settings.Keyword.TheVariants.{Process, Serial, Scores, Ledger}
use Rattle.journal.specs.declared.settings.Statement.{Statement}
use Rattle.journal.specs.declared.settings.Statement.TheVariants as statement
use Rattle.journal.specs.Text.{and_then, lines, words, allowed, only, number, paired, bytes_of_hex}
use Rattle.journal.specs.Calls.{Call, call_of, line_read, call_word, called}

-- what one line says
pub data Said : Type 0 where
  nothing : Said
  process_is : List ℕ → Said
  serial_is : ℕ → Said
  scores_is : ℕ → Said
  ledger_is : ℕ → Said
  call_is : Call → Said

-- the same of the code's statement, which has the process in hex digits
abbrev pub meant : Statement → Said
meant (statement.Process digits) = process_is (paired digits.now)
meant (statement.Serial n) = serial_is n
meant (statement.Scores n) = scores_is n
meant (statement.Ledger n) = ledger_is n
meant (statement.Call e) = call_is (call_of e)

abbrev pub meant_if : Option Statement → Said
meant_if None = nothing
meant_if (Some s) = meant s

-- the first word of a line
abbrev pub keyword : List ℕ → Option Keyword
keyword w =
    cond (bytes_eq w (codes "process")) (Some Process)
    (cond (bytes_eq w (codes "serial")) (Some Serial)
    (cond (bytes_eq w (codes "scores")) (Some Scores)
    (cond (bytes_eq w (codes "ledger")) (Some Ledger) None)))

-- what a line with this keyword says, by its other words
abbrev pub spoken : Keyword → List (List ℕ) → Result Said Wrong
spoken Process ws = and_then (only ws) (λ w. and_then (bytes_of_hex w) (λ bs. Ok (process_is bs)))
spoken Serial ws = and_then (only ws) (λ w. and_then (number 65535 w) (λ n. Ok (serial_is n)))
spoken Scores ws = and_then (only ws) (λ w. and_then (number 65535 w) (λ n. Ok (scores_is n)))
spoken Ledger ws = and_then (only ws) (λ w. and_then (number 65535 w) (λ n. Ok (ledger_is n)))

-- what a line says whose first word is that of a setting, that of a call, or unknown
abbrev pub stated : Option Keyword → Option CallWord → List (List ℕ) → Result Said Wrong
stated (Some k) c ws = spoken k ws
stated None (Some c) ws = and_then (called c ws) (λ x. Ok (call_is x))
stated None None ws = Err UnknownWord

-- What a line of these words says; `clean` if each of its bytes may stand in a line, which a comment need not be. Of several faults
-- the first counts: a stray byte, an unknown first word, too few or too many words, and then each word from left to right
abbrev pub by_words : List (List ℕ) → Bool → Result Said Wrong
by_words [] clean = Ok nothing
by_words (w ∷ ws) clean = cond (slice_index w 0 == 35) (Ok nothing) (cond clean (stated (keyword w) (call_word w) ws) (Err StrayByte))

abbrev pub said : List ℕ → Result Said Wrong
said line = by_words (words line) (list_all allowed line)

-- the settings and the calls that were read so far; the process and each call with the number of its line
pub record Settings : Type 0 where
  pub process : Option (ℕ × List ℕ)
  pub serial : Option ℕ
  pub scores : Option ℕ
  pub ledger : Option ℕ
  pub calls : List (ℕ × Call)

abbrev pub no_settings : Settings
no_settings = record { process = None; serial = None; scores = None; ledger = None; calls = [] }

-- what the code has read so far
abbrev pub process_read : Option (ℕ × Vec ℕ Global) → Option (ℕ × List ℕ)
process_read o = option_map (λ p. (p.0, vec_items p.1)) o

abbrev pub calls_read : Vec Line Global → List (ℕ × Call)
calls_read v = map line_read (vec_items v)

abbrev pub sofar : Draft → Settings
sofar d = record { process = process_read d.process; serial = d.serial; scores = d.scores; ledger = d.ledger; calls = calls_read d.lines }

-- a condition, and what is wrong where it fails
abbrev pub require : Bool → Wrong → Result (Unit {0}) Wrong
require true w = Ok tt
require false w = Err w

abbrev pub after_serial : Settings → Result (Unit {0}) Wrong
after_serial s = and_then (require (is_some s.process) MissingProcess) (λ _. require (is_some s.serial) MissingSerial)

-- scores and ledger come before every call
abbrev pub before_calls : Settings → Result (Unit {0}) Wrong
before_calls s = and_then (after_serial s) (λ _. require (length s.calls == 0) LateSetting)

-- the order of the lines: process first, then serial, then scores and ledger, each at most once, then the calls
abbrev pub admitted : Said → Settings → Result (Unit {0}) Wrong
admitted nothing s = Ok tt
admitted (process_is bs) s = require (not (is_some s.process)) Repeated
admitted (serial_is v) s = and_then (require (is_some s.process) MissingProcess) (λ _. require (not (is_some s.serial)) Repeated)
admitted (scores_is v) s = and_then (before_calls s) (λ _. require (not (is_some s.scores)) Repeated)
admitted (ledger_is v) s = and_then (before_calls s) (λ _. require (not (is_some s.ledger)) Repeated)
admitted (call_is c) s = after_serial s

-- what was read, with one line more, which has number n
abbrev pub stored : ℕ → Said → Settings → Settings
stored n nothing s = s
stored n (process_is bs) s = record s { process = Some (n, bs) }
stored n (serial_is v) s = record s { serial = Some v }
stored n (scores_is v) s = record s { scores = Some v }
stored n (ledger_is v) s = record s { ledger = Some v }
stored n (call_is c) s = record s { calls = s.calls ++ (n, c) ∷ [] }

-- what is wrong, with the number of the line
abbrev pub at_line : {A : Type 0} → ℕ → Result A Wrong → Result A Unreadable
at_line n (Ok a) = Ok a
at_line n (Err w) = Err (record { line = n; wrong = w })

-- the same of the code's error
abbrev pub error_at : ℕ → LineError → ParseError
error_at n (line_error.Wrong w) = parse_error.Unreadable (record { line = n; wrong = w })
error_at n (line_error.Memory e) = parse_error.Memory e

-- what a line says, where it may stand after these settings
abbrev pub said_after : Settings → List ℕ → Result Said Wrong
said_after s line = and_then (said line) (λ x. and_then (admitted x s) (λ _. Ok x))

-- the settings after line n
abbrev pub after_line : ℕ → List ℕ → Settings → Result Settings Unreadable
after_line n line s = at_line n (and_then (said_after s line) (λ x. Ok (stored n x s)))

-- what a journal says as a whole
pub record Contents : Type 0 where
  pub process : List ℕ
  pub process_line : ℕ
  pub serial : ℕ
  pub scores : ℕ
  pub ledger : ℕ
  pub calls : List (ℕ × Call)

-- the journal of settings with this process and this serial; the others have their defaults
abbrev pub filled : Settings → ℕ × List ℕ → ℕ → Contents
filled s p v = record {
  process = p.1;
  process_line = p.0;
  serial = v;
  scores = unwrap_or s.scores 256;
  ledger = unwrap_or s.ledger 768;
  calls = s.calls;
}

-- at the end both required settings are there
abbrev pub complete : Settings → Option (ℕ × List ℕ) → Option ℕ → Result Contents Wrong
complete s None v = Err MissingProcess
complete s (Some p) None = Err MissingSerial
complete s (Some p) (Some v) = Ok (filled s p v)

abbrev pub completed : Settings → Result Contents Wrong
completed s = complete s s.process s.serial

-- the lines from number n on, after the settings that were read before; a setting that misses is told at one past the last line
abbrev pub read_on : Settings → ℕ → List (List ℕ) → Result Contents Unreadable
read_on s n [] = at_line n (completed s)
read_on s n (l ∷ ls) = and_then (after_line n l s) (λ t. read_on t (n + 1) ls)

-- the journal that a text is
abbrev pub journal : List ℕ → Result Contents Unreadable
journal text = read_on no_settings 1 (lines text)

-- what a journal holds
abbrev pub contents : Journal → Contents
contents j = record {
  process = vec_items j.process;
  process_line = j.process_line;
  serial = j.serial;
  scores = j.scores;
  ledger = j.ledger;
  calls = calls_read j.lines;
}

-- unless memory ran out, r is the answer a, seen through `view`
abbrev pub Parsed : {A B : Type 0} → Result A ParseError → (A → B) → Result B Unreadable → Type 0
Parsed (Ok x) view a = a ≡ Ok (view x)
Parsed (Err (parse_error.Unreadable u)) view a = a ≡ Err u
Parsed (Err (parse_error.Memory e)) view a = ⊤
