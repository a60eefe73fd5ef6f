-- What a walk through the files has left to do, and what it may still cost.
use Rattle.std.specs.Prelude.{ℕ, ◌+◌, ◌-◌, ◌*◌, ◌<◌, ◌≤◌, List, [], Option, Some, None, slice_index_or}
use Rattle.format.specs.Layout.{table_width, slots}
use Rattle.format.specs.Inode.{block_of_inode}
use Rattle.format.specs.Sizes.{inodes_of}
use Rattle.verdict.specs.Scan.{Scan, walk, slots_from, inode, files}
use Rattle.format.specs.Area.{Area}
use Rattle.tally.specs.Notes.{unclaimed}
use Rattle.checking.specs.declared.met.InFile.{InFile}
use Rattle.checking.specs.declared.met.InFile.TheVariants.{Address, Inode}
use Rattle.checking.specs.declared.files.FileWalk.{FileWalk}
use Rattle.checking.specs.Tables.{open_left, Shut, ShutBelow, open_turns}

-- the inodes of the volume after inode k
abbrev pub files_from : Area → ℕ → Scan → Scan
files_from v k s = files v.sectors v.sizes.isize v.sizes.fsize k s

-- the entries of the open tables, then the slots of the inode, then the inodes after it
abbrev pub files_left : Area → FileWalk → Scan → Scan
files_left v f s = files_from v f.inode (slots_from v.sectors v.sizes.isize v.sizes.fsize f.node f.inode f.slot (open_left v f.at f.open s))

-- the same, with what was met to be done first; when nothing is met all is done
abbrev pub files_after : Option InFile → Area → FileWalk → Scan → Scan
files_after None v f s = s
files_after (Some (Address d a)) v f s = files_left v f (walk v.sectors v.sizes.isize v.sizes.fsize f.at d a s)
files_after (Some Inode) v f s =
    files_from v f.inode (inode v.sectors v.sizes.isize v.sizes.fsize (slice_index_or v.sectors (block_of_inode f.inode) []) f.inode s)

-- what holds of the walk when something was met
abbrev pub FilesReady : Option InFile → FileWalk → Type 0
FilesReady None f = Unit {0}
FilesReady (Some (Address d a)) f = (d ≤ 3) × ShutBelow d f.open
FilesReady (Some Inode) f = Shut f.open × (slots ≤ f.slot) × (0 < f.inode)

-- the inode is one of the volume's, or none has begun
abbrev pub Numbered : Area → FileWalk → Type 0
Numbered v f = f.inode ≤ inodes_of v.sizes.isize

-- how many turns the open tables, the slots and the inodes may still take
abbrev pub file_turns : Area → FileWalk → ℕ
file_turns v f = open_turns f.open + (slots - f.slot) + (slots + 1) * (inodes_of v.sizes.isize - f.inode)

-- a block that is claimed may open a table
abbrev pub claim_turns : List ℕ → ℕ
claim_turns cs = (table_width + 1) * unclaimed cs

-- how many turns what was met is counted for
abbrev pub file_worth : Option InFile → ℕ
file_worth None = 0
file_worth (Some (Address d a)) = 1
file_worth (Some Inode) = slots + 1
