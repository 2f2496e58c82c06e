-- The loops down a program and back: what each step down leaves to be done, and that levels and steps are pushed at the end.
use Rattle.std.proofs.Common.{◌≡◌, Bool, true, false, cond, List, [], ◌∷◌, ◌++◌, refl, ap}
use Rattle.c_values.specs.Name.{Name}
use Rattle.expression_lang.specs.Expression.{Exp}
use Rattle.monad_lang.specs.Program as M
use Rattle.monad_lang.specs.Program.{Mon}
use Rattle.rule_trees.specs.RuleTree.{Tree}
use Rattle.rule_eq.specs.Rule as R
use Rattle.rule_eq.specs.Rule.{Rule, Point}
use Rattle.rule_eq.specs.Table.{taken_at, behind}
use Rattle.polish.specs.Polished.{Polished, Way, leaf, bind_tree, at_once, and_then, put_taken, then_all, settled, parted, followed}
use Rattle.polish.specs.Climbed.{Made, after, Level, bottom, raised, climbed, Next, Enters, Skips, Stands, Turns, Puts}

-- What is pushed at the end is done first, coming back.

pub climbed_push : (again : Way) (vs : List Level) (v : Level) (at : Point) (q : Polished) →
    climbed again at (vs ++ (v ∷ [])) q ≡ climbed again at vs (raised again (bottom vs at) v q)
climbed_push again [] v at q = refl
climbed_push again (w ∷ vs) v at q = ap (λ p. raised again at w p) (climbed_push again vs v (behind w.first w.names at) q)

-- Steps down

abbrev level : List Made → Tree Rule → Mon → List Name → Level
level before t m xs = record { before = before; tree = t; first = m; names = xs }

abbrev made : Tree Rule → Mon → Made
made t m = record { tree = t; program = m }

module _ (again : Way) (last : Point → Polished) (at : Point) (t : Tree Rule) (o n : Mon) where
  -- what is left to be done after such a step
  abbrev pub Goes : Mon → List Name → Next → Polished → Type 0
  Goes m xs Enters p = p ≡ raised again at (level [] t m xs) (last (behind m xs at))
  Goes m xs Skips p =
      p ≡ after (made (bind_tree t (leaf R.Refl)) (M.Bind m xs n) ∷ made (leaf R.GuardKnown) n ∷ []) (last at)
  Goes m xs Stands p = p ≡ after (made (bind_tree t (leaf R.Refl)) (M.Bind m xs n) ∷ []) (at_once R.BindRet m)
  Goes m xs (Turns a zs b) p =
      let part = parted t o b in
      p
      ≡ raised again at
      (level
      (made (bind_tree part.before (leaf R.Refl)) (M.Bind (M.Bind a zs part.second) xs n)
      ∷ made (leaf R.Assoc) (M.Bind a zs (M.Bind part.second xs n)) ∷ []) (leaf R.Refl) a zs)
      (followed again last (behind a zs at) part.tree part.second b xs n)
  Goes (M.Ret es) xs (Puts i) p =
      p
      ≡ after (made (bind_tree t (leaf R.Refl)) (M.Bind (M.Ret es) xs n) ∷ [])
      (put_taken again at (M.Bind (M.Ret es) xs n) i n (taken_at i es xs))
  Goes m xs (Puts i) p = ⊥

  by_guard : (e : Exp) (known : Bool) →
      Goes (M.Guard e) [] (cond known Skips Enters)
      (cond known (then_all t (M.Guard e) [] n (and_then (leaf R.GuardKnown) n (last at)))
      (settled again last at t (M.Guard e) []))
  by_guard e true = refl
  by_guard e false = refl
