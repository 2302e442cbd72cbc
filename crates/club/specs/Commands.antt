-- Commands for the program's books: fees go to the first host, the ledger, and all else to the second, the score book.
-- Assumes nothing.
use Rattle.host.specs.declared.hosts.NoCommand.{NoCommand}
use Rattle.host.specs.declared.pair.PairCommand.{PairCommand}
use Rattle.host.specs.declared.pair.PairCommand.TheVariants.{First, Second}
use Rattle.host.specs.declared.switch.SwitchCommand.{SwitchCommand}
use Rattle.host.specs.declared.switch.SwitchCommand.TheVariants.{On, Off, Below}
use Rattle.club.specs.declared.commands.Book.{Book}
use Rattle.club.specs.declared.commands.Book.TheVariants.{Ledger, Scores}
use Rattle.club.specs.declared.commands.Turn.{Turn}
use Rattle.club.specs.declared.commands.Turn.TheVariants.{Open, Shut}

-- a command for one of the hosts, which turns its switch
abbrev pub ForSwitch : Type 0
ForSwitch = SwitchCommand NoCommand

abbrev pub Command : Type 0
Command = PairCommand ForSwitch ForSwitch

abbrev pub for_switch : Turn → ForSwitch
for_switch Open = On
for_switch Shut = Off

-- the command that opens or shuts a book
abbrev pub command_for : Turn → Book → Command
command_for turn Ledger = First (for_switch turn)
command_for turn Scores = Second (for_switch turn)

abbrev pub turn_by : ForSwitch → Turn
turn_by On = Open
turn_by Off = Shut
turn_by (Below c) = Open

-- whether a command opens or shuts a book; one for the book below a switch is told as opening
abbrev pub turn_of : Command → Turn
turn_of (First one) = turn_by one
turn_of (Second one) = turn_by one
