-- Steps of functions are read from their texts, and what is read is the step whose text it is.
use Rattle.std.proofs.Common.{◌≡◌, ℕ, Bool, true, false, cond, ◌&&◌, Option, Some, None, Ok, refl, ap, ap₂, sym, ◌∙◌}
use Rattle.std.proofs.lemmas.Bool.{and_parts, and_from}
use Rattle.c_values.specs.Name.{Name, same_name}
use Rattle.ac_sx.specs.Tree.{Tree, Trees, Atom, Node, no_trees, more}
use Rattle.ac_sx.specs.CodeSx.{headed_in, two_of}
use Rattle.expression_text.specs.Reading.{Read, next, ◌>>=◌}
use Rattle.expression_text.proofs.LookedUp.{name_is, name_same}
use Rattle.expression_text.proofs.Behind.{behind, IsReadAs, bind_ok, value_ok}
use Rattle.expression_text.proofs.ListLaws.{IsPart}
use Rattle.program_text.proofs.PartLaws.{two_is}
use Rattle.rule_trees.specs.RuleTree as rules
use Rattle.acceptance.specs.Certificate.{Step}
use Rattle.certificate_text.specs.CertificateText.{step_tree}
use Rattle.certificate_text.specs.CertificateReading.{step_parts, step_row, step_at}

pub headed_is : (t : Tree) (w : Name) (ts : Trees) → headed_in t ≡ Some (w, ts) → t ≡ Node (more (Atom w) ts)
headed_is (Node (more (Atom v) vs)) w ts e = let h : ◌≡◌ {A = Name × Trees} (v, vs) (w, ts) = cc in ap (λ (p : Name × Trees). Node (more (Atom p.0) p.1)) h
headed_is _ w ts e = absurd cc

module _ {Program Rule : Type 0} (step : Name) (program : ℕ → Tree → Read Program) (program_tree : Program → Tree) (is_program : Program → Bool) (tree : ℕ → Tree → Read (rules.Tree Rule)) (rules_tree : rules.Tree Rule → Tree) (are_rules : rules.Tree Rule → Bool) where
  abbrev text : Step Program Rule → Tree
  text s = step_tree step (program_tree s.program) (rules_tree s.tree)

  abbrev fine : Step Program Rule → Bool
  fine s = is_program s.program && are_rules s.tree

  pub step_reads : ((p : Program) → is_program p ≡ true → IsReadAs program (program_tree p) p) → ((r : rules.Tree Rule) → are_rules r ≡ true → IsReadAs tree (rules_tree r) r) →
      (s : Step Program Rule) → fine s ≡ true → IsReadAs (step_at step program tree) (text s) s
  step_reads programs trees s is = λ at.
      let inner = next (next at) in
      let p = and_parts (is_program s.program) (are_rules s.tree) is in
      ap (λ b. step_row program tree at (cond {A = Option (Tree × Tree)} b (Some (program_tree s.program, rules_tree s.tree)) None)) (name_same step step refl)
      ∙ ap (λ q. q >>= λ x. tree x.1 (rules_tree s.tree) >>= λ y. Ok (record { program = x.0; tree = y.0 }, y.1)) (programs s.program p.0 inner)
      ∙ ap (λ q. q >>= λ y. Ok (record { program = s.program; tree = y.0 }, y.1)) (trees s.tree p.1 (behind inner (program_tree s.program)))

  abbrev made : Program → rules.Tree Rule → Step Program Rule
  made p r = record { program = p; tree = r }

  abbrev IsText : Tree → Step Program Rule → Type 0
  IsText t s = IsPart text fine t s

  moved : (t : Tree) (s s' : Step Program Rule) → s ≡ s' → IsText t s → IsText t s'
  moved t s s' same is = (is.0 ∙ ap text same, ap fine (sym same) ∙ is.1)

  pub step_spells : ((t : Tree) (at : ℕ) (p : Program) (n : ℕ) → program at t ≡ Ok (p, n) → IsPart program_tree is_program t p) → ((t : Tree) (at : ℕ) (r : rules.Tree Rule) (n : ℕ) → tree at t ≡ Ok (r, n) → IsPart rules_tree are_rules t r) →
      (t : Tree) (at : ℕ) (s : Step Program Rule) (n : ℕ) → step_at step program tree at t ≡ Ok (s, n) → IsText t s
  step_spells programs trees t at s n read = by_head (headed_in t) refl read
    where
      by_parts : (w : Name) (ts : Trees) (o : Option (Tree × Tree)) → headed_in t ≡ Some (w, ts) → w ≡ step → two_of ts ≡ o → step_row program tree at o ≡ Ok (s, n) → IsText t s
      by_parts w ts None e named f read = absurd cc
      by_parts w ts (Some (u, v)) e named f read =
          let (x, first, others) = bind_ok (program (next (next at)) u) (λ x. tree x.1 v >>= λ y. Ok (made x.0 y.0, y.1)) (s, n) read in
          let (y, second, last) = bind_ok (tree x.1 v) (λ y. Ok (made x.0 y.0, y.1)) (s, n) others in
          let h = programs u (next (next at)) x.0 x.1 first in
          let k = trees v x.1 y.0 y.1 second in
          moved t (made x.0 y.0) s (value_ok (made x.0 y.0) y.1 s n last) (
            headed_is t w ts e ∙ ap₂ (λ v us. Node (more (Atom v) us)) named (two_is ts (u, v) f ∙ ap₂ (λ a b. more a (more b no_trees)) h.0 k.0),
            and_from (is_program x.0) (are_rules y.0) h.1 k.1,
          )

      by_word : (w : Name) (ts : Trees) (b : Bool) → headed_in t ≡ Some (w, ts) → same_name w step ≡ b → step_row program tree at (cond {A = Option (Tree × Tree)} b (two_of ts) None) ≡ Ok (s, n) → IsText t s
      by_word w ts false e f read = absurd cc
      by_word w ts true e f read = by_parts w ts (two_of ts) e (name_is w step f) refl read

      by_head : (o : Option (Name × Trees)) → headed_in t ≡ o → step_row program tree at (step_parts step o) ≡ Ok (s, n) → IsText t s
      by_head None e read = absurd cc
      by_head (Some (w, ts)) e read = by_word w ts (same_name w step) e refl read
