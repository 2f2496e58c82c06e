-- The pass over a file that finds its parts, byte by byte. Of other texts it means nothing.
use Rattle.std.specs.Prelude.{ℕ, ◌+◌, ◌-◌, ◌==◌, Bool, true, false, not, ◌&&◌, ◌||◌, List, [], ◌∷◌, ◌++◌, Option, Some, None, if◌then◌else◌}
use Rattle.std.specs.Option.{option_to_list}
use Rattle.ac_sx.specs.declared.spans.Cursor.{Cursor}
use Rattle.ac_sx.specs.declared.spans.SxPart.{SxPart}
use Rattle.ac_sx.specs.Tree.{opening, closing, space, is_atom_byte}

abbrev pub cursor : ℕ → Bool → ℕ → ℕ → Cursor
cursor lists word start nodes = record { lists = lists; word = word; start = start; nodes = nodes }

abbrev pub begun_at : ℕ → Cursor
begun_at start = cursor 1 false start 0

abbrev pub part : ℕ → ℕ → ℕ → SxPart
part start end nodes = record { start = start; end = end; nodes = nodes }

-- the part of the root that a byte ends
abbrev pub ended : Cursor → ℕ → ℕ → Option SxPart
ended c at b = if (c.lists == 1) && (not (c.nodes == 0) && ((b == space) || (b == closing))) then Some (part c.start at c.nodes) else None

abbrev pub opened : Cursor → ℕ → Cursor
opened c at = if c.lists == 0 then begun_at (at + 1) else cursor (c.lists + 1) false c.start (c.nodes + 1)

abbrev pub parted : Cursor → ℕ → Cursor
parted c at = if c.lists == 1 then begun_at (at + 1) else cursor c.lists false c.start c.nodes

abbrev pub moved : Cursor → ℕ → ℕ → Cursor
moved c at b =
    if b == opening then opened c at
    else if b == closing then cursor (c.lists - 1) false c.start c.nodes
    else if is_atom_byte b then cursor c.lists true c.start (if c.word then c.nodes else c.nodes + 1)
    else parted c at

abbrev pub scanned_from : Cursor → ℕ → List ℕ → List SxPart
scanned_from c at [] = []
scanned_from c at (b ∷ bs) = option_to_list (ended c at b) ++ scanned_from (moved c at b) (at + 1) bs

abbrev pub scanned : List ℕ → List SxPart
scanned text = scanned_from (cursor 0 false 0 0) 0 text
