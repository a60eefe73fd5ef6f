-- The words of the commands, and the bounds of their numbers.
use Rattle.std.specs.Prelude.{◌≤◌, ⊤, List, [], ◌∷◌, map, vec_len}
use Rattle.script.specs.declared.token.Token.{Token}
use Rattle.script.specs.declared.token.Token.TheVariants.{Named, Number}
use Rattle.script.specs.declared.command.TheConstants.{MOST_SECTORS, MOST_WORN, MOST_LENT, MOST_FINDINGS}
use Rattle.script.specs.declared.token.Word.{Word}
use Rattle.script.specs.declared.token.Word.TheVariants as words
use Rattle.script.specs.declared.command.Order.{Order}
use Rattle.script.specs.declared.command.Order.TheVariants as orders
use Rattle.script.specs.declared.command.Lent.{Lent}
use Rattle.script.specs.declared.command.Lent.TheVariants as lents
use Rattle.script.specs.declared.command.Call.{Call}
use Rattle.script.specs.declared.command.Call.TheVariants as calls
use Rattle.script.specs.declared.command.Chore.{Chore}
use Rattle.script.specs.declared.command.Chore.TheVariants as chores
use Rattle.script.specs.declared.command.Command.{Command}
use Rattle.script.specs.declared.command.Command.TheVariants as commands

-- the word for an order of the bytes
abbrev pub order_word : Order → Word
order_word orders.Plain = words.Plain
order_word orders.Swapped = words.Swapped

-- the word for a buffer
abbrev pub lent_word : Lent → Word
lent_word lents.Sector = words.Sector
lent_word lents.Block = words.Block
lent_word lents.Scratch = words.Scratch

-- the word that a call's line begins with
abbrev pub call_word : Call → Word
call_word (calls.Make isize fsize) = words.Make
call_word calls.Find = words.Find
call_word calls.Check = words.Check
call_word calls.Clear = words.Clear
call_word calls.Close = words.Close

-- the word that a chore's line begins with
abbrev pub chore_word : Chore → Word
chore_word (chores.Worn sectors) = words.Worn
chore_word (chores.Power writes) = words.Power
chore_word (chores.Lend which len) = words.Lend
chore_word (chores.LendFindings len) = words.Lend
chore_word (chores.Poke p) = words.Poke
chore_word chores.Digest = words.Digest
chore_word chores.Image = words.Image
chore_word chores.Buffers = words.Buffers

-- the numbers of a chore are within the bounds of scripts
abbrev pub IsBoundedChore : Chore → Type 0
IsBoundedChore (chores.Worn sectors) = vec_len sectors ≤ MOST_WORN
IsBoundedChore (chores.Lend which len) = len ≤ MOST_LENT
IsBoundedChore (chores.LendFindings len) = len ≤ MOST_FINDINGS
IsBoundedChore _ = ⊤

-- the numbers of a command are within the bounds of scripts
abbrev pub IsBounded : Command → Type 0
IsBounded (commands.NewDisk order sectors) = sectors ≤ MOST_SECTORS
IsBounded (commands.Run call) = ⊤
IsBounded (commands.Do chore) = IsBoundedChore chore

-- the tokens of a call's line
abbrev pub call_tokens : Call → List Token
call_tokens (calls.Make isize fsize) = Named words.Make ∷ Number isize ∷ Number fsize ∷ []
call_tokens calls.Find = Named words.Find ∷ []
call_tokens calls.Check = Named words.Check ∷ []
call_tokens calls.Clear = Named words.Clear ∷ []
call_tokens calls.Close = Named words.Close ∷ []

-- the tokens of a chore's line
abbrev pub chore_tokens : Chore → List Token
chore_tokens (chores.Worn sectors) = Named words.Worn ∷ map Number sectors.items
chore_tokens (chores.Power writes) = Named words.Power ∷ Number writes ∷ []
chore_tokens (chores.Lend which len) = Named words.Lend ∷ Named (lent_word which) ∷ Number len ∷ []
chore_tokens (chores.LendFindings len) = Named words.Lend ∷ Named words.Findings ∷ Number len ∷ []
chore_tokens (chores.Poke p) = Named words.Poke ∷ Number p.sector ∷ Number p.at ∷ Number p.byte ∷ []
chore_tokens chores.Digest = Named words.Digest ∷ []
chore_tokens chores.Image = Named words.Image ∷ []
chore_tokens chores.Buffers = Named words.Buffers ∷ []

-- the tokens of a command's line
abbrev pub command_tokens : Command → List Token
command_tokens (commands.NewDisk order sectors) = Named words.Disk ∷ Named (order_word order) ∷ Number sectors ∷ []
command_tokens (commands.Run call) = call_tokens call
command_tokens (commands.Do chore) = chore_tokens chore
