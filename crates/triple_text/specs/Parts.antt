-- Lists of five parts, of six and of seven.
use Rattle.std.specs.Prelude.{Option, Some, None}
use Rattle.ac_sx.specs.Tree.{Tree, Trees, no_trees, more}
use Rattle.program_text.specs.MonReading.{four_of}

abbrev pub before_four : Tree → Option (Tree × Tree × Tree × Tree) → Option (Tree × Tree × Tree × Tree × Tree)
before_four t None = None
before_four t (Some (a, b, c, d)) = Some (t, a, b, c, d)

-- the five of five
abbrev pub five_of : Trees → Option (Tree × Tree × Tree × Tree × Tree)
five_of no_trees = None
five_of (more t ts) = before_four t (four_of ts)

abbrev pub before_five : Tree → Option (Tree × Tree × Tree × Tree × Tree) → Option (Tree × Tree × Tree × Tree × Tree × Tree)
before_five t None = None
before_five t (Some (a, b, c, d, e)) = Some (t, a, b, c, d, e)

-- the six of six
abbrev pub six_of : Trees → Option (Tree × Tree × Tree × Tree × Tree × Tree)
six_of no_trees = None
six_of (more t ts) = before_five t (five_of ts)

abbrev pub before_six : Tree → Option (Tree × Tree × Tree × Tree × Tree × Tree) → Option (Tree × Tree × Tree × Tree × Tree × Tree × Tree)
before_six t None = None
before_six t (Some (a, b, c, d, e, f)) = Some (t, a, b, c, d, e, f)

-- the seven of seven
abbrev pub seven_of : Trees → Option (Tree × Tree × Tree × Tree × Tree × Tree × Tree)
seven_of no_trees = None
seven_of (more t ts) = before_six t (six_of ts)
