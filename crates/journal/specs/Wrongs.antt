-- What is reported: a line's fault in words. Assumes nothing.
use Rattle.std.specs.Prelude.{List, ℕ, ◌++◌, codes, decimal}
use Rattle.journal.specs.declared.Wrong.{Wrong}
use Rattle.journal.specs.declared.Wrong.TheVariants.{StrayByte, UnknownWord, TooFewWords, TooManyWords, NotANumber, NumberTooLarge}
use Rattle.journal.specs.declared.Wrong.TheVariants.{NotHex, OddHex, MissingProcess, MissingSerial, Repeated}
use Rattle.journal.specs.declared.Wrong.TheVariants.{MissingNumber, NotATicket, NotAKind, NotAMode, NotAHost, LateSetting}
use Rattle.journal.specs.declared.ParseError.{ParseError}
use Rattle.journal.specs.declared.ParseError.TheVariants as parse_error
use Rattle.journal.specs.declared.Unreadable.{Unreadable}

-- what is wrong with a line, in words
abbrev pub wrong_text : Wrong → List ℕ
wrong_text StrayByte = codes "a byte is neither printable ASCII nor a space nor a tab"
wrong_text UnknownWord = codes "the first word is unknown"
wrong_text TooFewWords = codes "a word is missing"
wrong_text TooManyWords = codes "there is a word too many"
wrong_text NotANumber = codes "a number has a character that is no decimal digit"
wrong_text NumberTooLarge = codes "a number is too large"
wrong_text NotHex = codes "the process has a character that is no hex digit"
wrong_text OddHex = codes "the process has an odd number of hex digits"
wrong_text MissingProcess = codes "the process must come first"
wrong_text MissingSerial = codes "the serial must come straight after the process"
wrong_text Repeated = codes "this setting was given before"
wrong_text MissingNumber = codes "a number is missing in a list or a ticket"
wrong_text NotATicket = codes "a ticket has no slash between its numbers"
wrong_text NotAKind = codes "the kind is neither score nor fee"
wrong_text NotAMode = codes "an abort is neither complete nor partial"
wrong_text NotAHost = codes "the host is neither ledger nor scores"
wrong_text LateSetting = codes "a setting comes after a call"

abbrev pub report : Unreadable → List ℕ
report u = codes "line " ++ (decimal u.line ++ (codes ": " ++ wrong_text u.wrong))

-- why a journal was not read
abbrev pub failure : ParseError → List ℕ
failure (parse_error.Unreadable u) = report u
failure (parse_error.Memory e) = codes "memory ran out"
