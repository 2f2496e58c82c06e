-- Parts of a sequence that were passed, and a summary of the names that they bind: a set of 64 marks, of which each name has one.
use Rattle.std.specs.Prelude.{◌≡◌, ◌+◌, ◌*◌, ◌%◌, ℕ, zero, suc, Bool, true, false, ◌&&◌, ◌++◌, List, [], ◌∷◌, if◌then◌else◌}
use Rattle.std.specs.Int.{bit_at}
use Rattle.rule_word.specs.declared.stretch.Place as P
use Rattle.rule_word.specs.declared.stretch.Stretch as S
use Rattle.rule_trees.specs.RuleTree.{Tree}
use Rattle.c_values.specs.Name.{Name}
use Rattle.expression_lang.specs.Sort.{Kind}
use Rattle.expression_lang.specs.Signature.{Binder}
use Rattle.monad_lang.specs.Program.{Mon}
use Rattle.monad_lang.specs.CodeProgram.{mon_of}
use Rattle.rule_word.specs.Rule.{Rule}
use Rattle.rule_word.specs.Scopes.{with_kinds}
use Rattle.rule_word.specs.CodeNames.{with_passed}
use Rattle.rule_word.specs.CodeRule.{tree_of}

abbrev pub mark_from : ℕ → Name → ℕ
mark_from n [] = n
mark_from n (byte ∷ rest) = mark_from ((n * 5 + byte) % 64) rest

-- the mark of a name
abbrev pub mark : Name → ℕ
mark x = mark_from 0 x

abbrev pub is_one : ℕ → Bool
is_one zero = false
is_one (suc n) = true

-- the name's mark is among these
abbrev pub is_marked : ℕ → Name → Bool
is_marked marks x = is_one (bit_at marks (mark x))

-- those whose names are marked
abbrev pub marked : ℕ → List Binder → List Binder
marked marks [] = []
marked marks (b ∷ bs) = if is_marked marks b.name then b ∷ marked marks bs else marked marks bs

abbrev pub are_marked : ℕ → List Binder → Bool
are_marked marks [] = true
are_marked marks (b ∷ bs) = is_marked marks b.name && are_marked marks bs

abbrev pub are_names_marked : ℕ → List Name → Bool
are_names_marked marks [] = true
are_names_marked marks (x ∷ xs) = is_marked marks x && are_names_marked marks xs

-- how many parts there are of which tree and program
abbrev pub count_in : S.Stretch → ℕ
count_in s = s.before + s.between + s.since

abbrev pub tree_in : S.Stretch → Tree Rule
tree_in s = tree_of s.tree.now

abbrev pub parts_in : S.Stretch → Mon
parts_in s = mon_of s.parts.now

-- the tree and the program at a place
abbrev pub tree_at : Tree Rule → P.Place → Tree Rule
tree_at whole P.TheVariants.Start = whole
tree_at whole (P.TheVariants.Behind t m) = tree_of t.now

abbrev pub parts_at : Mon → P.Place → Mon
parts_at program P.TheVariants.Start = program
parts_at program (P.TheVariants.Behind t m) = mon_of m.now.value

-- the names in scope behind so many parts at a place
abbrev pub behind_place : S.Stretch → P.Place → ℕ → List Binder → List Binder
behind_place s place n bs = with_passed n (tree_at (tree_in s) place) (parts_at (parts_in s) place) bs

-- what the parts bind before the later places, between them and behind them, the last first
abbrev pub first_bound : S.Stretch → List Binder
first_bound s = with_passed s.before (tree_in s) (parts_in s) []

abbrev pub between_bound : S.Stretch → List Binder
between_bound s = behind_place s s.middle s.between []

abbrev pub late_bound : S.Stretch → List Binder
late_bound s = behind_place s s.late s.since []

-- the names in scope behind the parts, as the code finds them
abbrev pub found_behind : S.Stretch → List Binder → List Binder
found_behind s bs = marked s.marks (late_bound s) ++ (marked s.marks (between_bound s) ++ (marked s.marks (first_bound s) ++ bs))

-- the names in scope behind the parts
abbrev pub behind : S.Stretch → List Binder → List Binder
behind s bs = with_passed (count_in s) (tree_in s) (parts_in s) bs

-- behind so many parts of a sequence stand this tree and this program
abbrev pub LeadsOn : Tree Rule → Mon → ℕ → Tree Rule → Mon → Type 0
LeadsOn t m n whole program = (k : ℕ) (bs : List Binder) → with_passed k t m (with_passed n whole program bs) ≡ with_passed (n + k) whole program bs

-- all names are marked, and the later places are places of the sequence
pub record IsKept (s : S.Stretch) : Type 0 where
  pub first : are_marked s.marks (first_bound s) ≡ true
  pub between : are_marked s.marks (between_bound s) ≡ true
  pub late : are_marked s.marks (late_bound s) ≡ true
  pub to_middle : LeadsOn (tree_at (tree_in s) s.middle) (parts_at (parts_in s) s.middle) s.before (tree_in s) (parts_in s)
  pub to_late : LeadsOn (tree_at (tree_in s) s.late) (parts_at (parts_in s) s.late) (s.before + s.between) (tree_in s) (parts_in s)

-- behind so many parts of a sequence stands one that binds these names, and behind that the tree and the program
pub record IsNext (xs : List Name) (js : List Kind) (tree : Tree Rule) (parts : Mon) (n : ℕ) (whole : Tree Rule) (program : Mon) : Type 0 where
  pub bound : (bs : List Binder) → with_passed (n + 1) whole program bs ≡ with_kinds xs js (with_passed n whole program bs)
  pub onward : LeadsOn tree parts (n + 1) whole program
