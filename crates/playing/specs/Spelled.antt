-- What is printed: answers, and the summary. Assumes nothing.
use Rattle.std.specs.Prelude.{ℕ, ℤ, ◌+◌, ◌/◌, ◌%◌, cond, nat_lt, List, [], ◌∷◌, ◌++◌, map, Some, None, Option, codes, decimal}
use Rattle.std.specs.Fmt.{signed_decimal}
use Rattle.std.specs.List.{flat_map}
use Rattle.values.specs.declared.Fault.{Fault}
use Rattle.values.specs.declared.Phase.{Phase}
use Rattle.values.specs.declared.Phase.TheVariants.{Forward, Undoing, Parked}
use Rattle.values.specs.declared.RowArrow.{RowArrow}
use Rattle.values.specs.declared.RowState.{RowState}
use Rattle.values.specs.declared.RowState.TheVariants.{Absent, Running, Committed, Dropped, Due, Undone, PassedOver}
use Rattle.values.specs.declared.TicketNumber.{TicketNumber}
use Rattle.values.specs.Texts.{spelled}
use Rattle.model.specs.Summaries.{Counts}
use Rattle.playing.specs.declared.answers.Answer.{Answer}
use Rattle.playing.specs.declared.answers.Answer.TheVariants.{Process, Row, Done, Ticket, Listed, Reply, Declined}
use Rattle.playing.specs.declared.summary.CallCounts.{CallCounts}
use Rattle.playing.specs.Summaries.{SummaryShown}
use Rattle.journal.specs.Text.{printable}

-- a question mark for each byte that is not printable
abbrev pub shown_byte : ℕ → ℕ
shown_byte b = cond (printable b) b 63

abbrev pub shown_name : List ℕ → List ℕ
shown_name name = map shown_byte name

-- items with commas between; a dash where there are none
abbrev pub parted : {X : Type 0} → (X → List ℕ) → List X → List ℕ
parted text [] = codes "-"
parted text (x ∷ xs) = text x ++ flat_map (λ y. codes "," ++ text y) xs

abbrev pub arrow_text : RowArrow → List ℕ
arrow_text a = decimal a.from ++ (codes ">" ++ decimal a.to)

-- a digit 0 to 9 or a to f
abbrev pub hex_digit : ℕ → ℕ
hex_digit n = cond (nat_lt n 10) (48 + n) (87 + n)

-- two hex digits for each byte
abbrev pub hex_text : List ℕ → List ℕ
hex_text bytes = flat_map (λ b. hex_digit (b / 16) ∷ hex_digit (b % 16) ∷ []) bytes

-- ── answers ──

abbrev pub row_text : ℕ → List ℕ
row_text row = codes "row " ++ decimal row

abbrev pub ticket_text : TicketNumber → List ℕ
ticket_text t = codes "ticket " ++ (decimal t.serial ++ (codes "/" ++ decimal t.rollback))

abbrev pub listed_text : List RowArrow → List ℕ → List ℕ
listed_text arrows restarts = codes "arrows " ++ (parted arrow_text arrows ++ (codes " restart " ++ parted decimal restarts))

abbrev pub declined_text : Fault → List ℕ
declined_text fault = codes "declined " ++ spelled fault

abbrev pub answer_text : Answer → List ℕ
answer_text (Process steps arrows) = codes "steps " ++ (decimal steps ++ (codes " arrows " ++ decimal arrows))
answer_text (Row row) = row_text row
answer_text Done = codes "done"
answer_text (Ticket t) = ticket_text t
answer_text (Listed arrows restarts) = listed_text arrows.now restarts.now
answer_text (Reply bytes) = hex_text bytes.now
answer_text (Declined fault) = declined_text fault

-- the answer to a line: NUMBER WORD: ANSWER
abbrev pub text_line : ℕ → List ℕ → List ℕ → List ℕ
text_line line word text = decimal line ++ (codes " " ++ (word ++ (codes ": " ++ (text ++ codes "\n"))))

abbrev pub answer_line : ℕ → List ℕ → Answer → List ℕ
answer_line line word answer = text_line line word (answer_text answer)

abbrev pub phase_text : Phase → List ℕ
phase_text Forward = codes "forward"
phase_text Undoing = codes "undoing"
phase_text Parked = codes "parked"

-- nothing is told of a private step's rows
abbrev pub standing_text : Option RowState → List ℕ
standing_text None = codes "private"
standing_text (Some Absent) = codes "none"
standing_text (Some Running) = codes "running"
standing_text (Some Committed) = codes "committed"
standing_text (Some Dropped) = codes "dropped"
standing_text (Some Due) = codes "due"
standing_text (Some Undone) = codes "undone"
standing_text (Some PassedOver) = codes "passed over"

abbrev pub calls_text : CallCounts → List ℕ
calls_text n =
    codes "summary\ncalls " ++ (decimal n.all ++ (codes " accepted " ++ (decimal n.accepted
    ++ (codes " declined " ++ (decimal n.declined ++ codes "\n")))))

abbrev pub state_text : Phase → ℕ → List ℕ
state_text phase rollbacks = codes "phase " ++ (phase_text phase ++ (codes " rollbacks " ++ (decimal rollbacks ++ codes "\n")))

abbrev pub rows_text : Counts → List ℕ
rows_text r =
    codes "rows " ++ (decimal r.all ++ (codes " running " ++ (decimal r.running ++ (codes " committed " ++ (decimal r.committed
    ++ (codes " dropped " ++ (decimal r.dropped ++ (codes " due " ++ (decimal r.due ++ (codes " undone " ++ (decimal r.undone
    ++ (codes " passed over " ++ decimal r.passed_over))))))))))))

-- a step's line, by its name and how it stands
abbrev pub line_text : List ℕ × Option RowState → List ℕ
line_text s = s.0 ++ (codes " " ++ standing_text s.1)

abbrev pub step_text : ℕ → List ℕ × Option RowState → List ℕ
step_text n s = codes "step " ++ (decimal n ++ (codes " " ++ (line_text s ++ codes "\n")))

-- the step lines, numbered from n on
abbrev pub steps_text : ℕ → List (List ℕ × Option RowState) → List ℕ
steps_text n [] = []
steps_text n (s ∷ ss) = step_text n s ++ steps_text (n + 1) ss

-- a line where the balance is wanted
abbrev pub balance_text : Option ℤ → List ℕ
balance_text None = []
balance_text (Some b) = codes "balance " ++ (signed_decimal b ++ codes "\n")

abbrev pub summary_text : SummaryShown → List ℕ
summary_text s =
    calls_text s.calls ++ (state_text s.phase s.rollbacks
    ++ (rows_text s.rows ++ (codes "\n" ++ (steps_text 1 s.steps ++ balance_text s.balance))))
