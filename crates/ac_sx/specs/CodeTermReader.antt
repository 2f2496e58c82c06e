-- The lists that are being read, by the numbers of their parts.
use Rattle.std.specs.Prelude.{◌≡◌, ℕ, ◌+◌, ◌≤◌, Bool, true, ◌&&◌, List, [], ◌∷◌, ◌++◌, length, map, reverse, Vec}
use Rattle.std.specs.List.{list_all}
use Rattle.std.specs.declared.alloc.Global.{Global}
use Rattle.ac_sx.specs.declared.terms.TermId.{TermId}
use Rattle.ac_sx.specs.declared.term_reader.OpenLists.{OpenLists}
use Rattle.ac_sx.specs.Tree.{Trees, depths, deepest}
use Rattle.ac_sx.specs.Table.{Entry, trees_of, trees_at, are_below}
use Rattle.ac_sx.specs.CodeBuilder.{Building}

-- the parts of the innermost list so far, and of those around it, the innermost first
pub record Open : Type 0 where
  pub parts : List ℕ
  pub around : List (List ℕ)

abbrev pub numbers : List TermId → List ℕ
numbers ids = map (λ (id : TermId). id.0) ids

abbrev pub open_of : OpenLists → Open
open_of o = record { parts = numbers o.parts.items; around = reverse (map (λ (v : Vec TermId Global). numbers v.items) o.around.items) }

abbrev pub no_lists : Open
no_lists = record { parts = []; around = [] }

abbrev pub with_part : Open → ℕ → Open
with_part o i = record { parts = o.parts ++ i ∷ []; around = o.around }

abbrev pub with_list : Open → Open
with_list o = record { parts = []; around = o.parts ∷ o.around }

-- their trees
abbrev pub building_in : List Entry → Open → Building
building_in es o = record { parts = trees_at (trees_of es) o.parts; around = map (trees_at (trees_of es)) o.around }

-- all are numbers of a table so long
abbrev pub are_open_below : ℕ → Open → Bool
are_open_below n o = are_below n o.parts && list_all (are_below n) o.around

-- the lists of a building, by numbers of the table
pub record Stands (es : List Entry) (o : Open) (b : Building) : Type 0 where
  pub below : are_open_below (length es) o ≡ true
  pub same : building_in es o ≡ b

-- the parts of each list that is open nest no deeper than the lists around it leave room
abbrev pub AreLowAround : List Trees → Type 0
AreLowAround [] = Unit {0}
AreLowAround (ts ∷ outer) = (length outer + depths ts ≤ deepest) × AreLowAround outer

abbrev pub IsLow : Building → Type 0
IsLow b = (length b.around + depths b.parts ≤ deepest) × AreLowAround b.around
