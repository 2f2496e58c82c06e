-- Lifted expressions: the rules take a ready one to it; it has no load; and it has the sort that it had.
use Rattle.std.proofs.Common.{◌≡◌, ◌≢◌, false, List, [], ◌∷◌, ◌++◌, ◌⊎◌, inl, inr, refl, sym, ap, subst}
use Rattle.c_values.specs.Name.{Name}
use Rattle.c_values.specs.Layout.{Layout}
use Rattle.expression_lang.specs.Expression.{Exp, Var, WordLit, NumberLit, TruthLit, WordBinary, WordShift, WordUnary, WordCompare, Cast, ToNat, ToInt, ToWord, Arith, Negate, Lt, Le, Between, Eq, And, Or, Imp, Not, If, Padd, At, Load, Read, Tagged, PtrOk, Global, Sel, Upd, Path, Here, IntoField, IntoElement}
use Rattle.ac_expr.specs.Heads.{path_children, path_head}
use Rattle.ac_expr.specs.Fact.{Fact, Whole, NotTrue}
use Rattle.rule_trees.specs.RuleTree.{Tree, Trees, no_trees, tree, Accepts, AcceptsAll}
use Rattle.rule_heap.specs.Rule.{Rule, Claim, OfExp}
use Rattle.rule_heap.specs.Table.{each, table}
use Rattle.rule_heap.specs.ExpLifted.{exp_lifted, path_lifted, exp_tree, path_trees, leaf_or_op, IsReady, IsPathReady}

pub path_head_stays : (path : Path) → path_head (path_lifted path) ≡ path_head path
path_head_stays Here = refl
path_head_stays (IntoField k path) = ap (λ p. IntoField k p) (path_head_stays path)
path_head_stays (IntoElement e path) = ap (λ p. IntoElement (TruthLit false) p) (path_head_stays path)

some_child : {A : Type 0} {x : A} {xs : List A} → ◌≡◌ {A = List A} (x ∷ xs) [] → ⊥
some_child h = absurd cc

-- a path without an index, and one with an index
record NoIndex (path : Path) : Type 0 where
  children : path_children path ≡ []
  same : path_lifted path ≡ path
  trees : path_trees path no_trees ≡ no_trees

record SomeIndex (path : Path) : Type 0 where
  first : Tree Rule
  others : Trees Rule
  children : path_children path ≢ []
  trees : path_trees path no_trees ≡ tree first others

abbrev HasIndex : Path → Type 0
HasIndex path = NoIndex path ⊎ SomeIndex path

has_index : (path : Path) → HasIndex path
has_index Here = inl (record { children = refl; same = refl; trees = refl })
has_index (IntoElement e path) = inr (record { first = exp_tree e; others = path_trees path no_trees; children = λ h. some_child h; trees = refl })
has_index (IntoField k path) = further (has_index path)
  where
    further : HasIndex path → HasIndex (IntoField k path)
    further (inl n) = inl (record { children = n.children; same = ap (λ q. IntoField k q) n.same; trees = n.trees })
    further (inr s) = inr (record { first = s.first; others = s.others; children = s.children; trees = s.trees })

module _ (l : Layout) where
  abbrev Taken : List Fact → Exp → Type 0
  Taken fs e = Accepts (table l) (exp_tree e) (OfExp fs e (exp_lifted e))

  abbrev AllTaken : Trees Rule → List Claim → Type 0
  AllTaken ts cs = AcceptsAll (table l) ts cs

  -- a global's path
  global_taken : (fs : List Fact) (x : Name) (path : Path) → AllTaken (path_trees path no_trees) (each fs (path_children path) (path_children (path_lifted path))) →
      Accepts (table l) (leaf_or_op (path_trees path no_trees)) (OfExp fs (Global x path) (Global x (path_lifted path)))
  global_taken fs x path h = by_children (has_index path)
    where
      by_children : HasIndex path → Accepts (table l) (leaf_or_op (path_trees path no_trees)) (OfExp fs (Global x path) (Global x (path_lifted path)))
      by_children (inl n) = subst (λ ts. Accepts (table l) (leaf_or_op ts) (OfExp fs (Global x path) (Global x (path_lifted path)))) (sym n.trees) ((n.children, ap (λ q. Global x q) n.same), tt)
      by_children (inr s) =
          subst (λ ts. Accepts (table l) (leaf_or_op ts) (OfExp fs (Global x path) (Global x (path_lifted path)))) (sym s.trees)
          ((refl, s.children, ap (λ q. Global x q) (path_head_stays path)), subst (λ ts. AllTaken ts (each fs (path_children path) (path_children (path_lifted path)))) s.trees h)

  mutual
    pub exp_taken : (fs : List Fact) (e : Exp) → IsReady l fs e → Taken fs e
    exp_taken fs (Var x) h = ((refl, refl), tt)
    exp_taken fs (WordLit x) h = ((refl, refl), tt)
    exp_taken fs (NumberLit x) h = ((refl, refl), tt)
    exp_taken fs (TruthLit x) h = ((refl, refl), tt)
    exp_taken fs (WordBinary op a b) h = ((refl, (λ e. some_child e), refl), (exp_taken fs a h.0, (exp_taken fs b h.1, tt)))
    exp_taken fs (WordShift op a b) h = ((refl, (λ e. some_child e), refl), (exp_taken fs a h.0, (exp_taken fs b h.1, tt)))
    exp_taken fs (WordUnary op a) h = ((refl, (λ e. some_child e), refl), (exp_taken fs a h, tt))
    exp_taken fs (WordCompare op a b) h = ((refl, (λ e. some_child e), refl), (exp_taken fs a h.0, (exp_taken fs b h.1, tt)))
    exp_taken fs (Cast op n a) h = ((refl, (λ e. some_child e), refl), (exp_taken fs a h, tt))
    exp_taken fs (ToNat a) h = ((refl, (λ e. some_child e), refl), (exp_taken fs a h, tt))
    exp_taken fs (ToInt a) h = ((refl, (λ e. some_child e), refl), (exp_taken fs a h, tt))
    exp_taken fs (ToWord n a) h = ((refl, (λ e. some_child e), refl), (exp_taken fs a h, tt))
    exp_taken fs (Arith op a b) h = ((refl, (λ e. some_child e), refl), (exp_taken fs a h.0, (exp_taken fs b h.1, tt)))
    exp_taken fs (Negate a) h = ((refl, (λ e. some_child e), refl), (exp_taken fs a h, tt))
    exp_taken fs (Lt a b) h = ((refl, (λ e. some_child e), refl), (exp_taken fs a h.0, (exp_taken fs b h.1, tt)))
    exp_taken fs (Le a b) h = ((refl, (λ e. some_child e), refl), (exp_taken fs a h.0, (exp_taken fs b h.1, tt)))
    exp_taken fs (Between low a high) h = ((refl, (λ e. some_child e), refl), (exp_taken fs a h, tt))
    exp_taken fs (Eq a b) h = ((refl, (λ e. some_child e), refl), (exp_taken fs a h.0, (exp_taken fs b h.1, tt)))
    exp_taken fs (And a b) h = (tt, (exp_taken fs a h.0, (exp_taken (Whole (exp_lifted a) ∷ fs) b h.1, tt)))
    exp_taken fs (Or a b) h = (tt, (exp_taken fs a h.0, (exp_taken (NotTrue (exp_lifted a) ∷ fs) b h.1, tt)))
    exp_taken fs (Imp a b) h = (tt, (exp_taken fs a h.0, (exp_taken (Whole (exp_lifted a) ∷ fs) b h.1, tt)))
    exp_taken fs (Not a) h = ((refl, (λ e. some_child e), refl), (exp_taken fs a h, tt))
    exp_taken fs (If a b c) h = (tt, (exp_taken fs a h.0, (exp_taken (Whole (exp_lifted a) ∷ fs) b h.1, (exp_taken (NotTrue (exp_lifted a) ∷ fs) c h.2, tt))))
    exp_taken fs (Padd t a b) h = ((refl, (λ e. some_child e), refl), (exp_taken fs a h.0, (exp_taken fs b h.1, tt)))
    exp_taken fs (At t a path) h = ((refl, (λ e. some_child e), ap (λ q. At t (TruthLit false) q) (path_head_stays path)), (exp_taken fs a h.0, path_taken fs path h.1))
    exp_taken fs (Load t a path) h = ((refl, path_head_stays path, h.0), (exp_taken fs a h.1, path_taken fs path h.2))
    exp_taken fs (Read t a path) h = absurd h
    exp_taken fs (Tagged t a) h = (refl, (exp_taken fs a h, tt))
    exp_taken fs (PtrOk t a) h = (refl, (exp_taken fs a h, tt))
    exp_taken fs (Global x path) h = global_taken fs x path (path_taken fs path h)
    exp_taken fs (Sel a path) h = ((refl, (λ e. some_child e), ap (λ q. Sel (TruthLit false) q) (path_head_stays path)), (exp_taken fs a h.0, path_taken fs path h.1))
    exp_taken fs (Upd a path b) h = ((refl, (λ e. some_child e), ap (λ q. Upd (TruthLit false) q (TruthLit false)) (path_head_stays path)), (exp_taken fs a h.0, upd_taken fs path b h.1 (exp_taken fs b h.2)))

    pub path_taken : (fs : List Fact) (path : Path) → IsPathReady l fs path → AllTaken (path_trees path no_trees) (each fs (path_children path) (path_children (path_lifted path)))
    path_taken fs Here h = tt
    path_taken fs (IntoField k path) h = path_taken fs path h
    path_taken fs (IntoElement e path) h = (exp_taken fs e h.0, path_taken fs path h.1)

    -- and one more
    upd_taken : (fs : List Fact) (path : Path) (b : Exp) → IsPathReady l fs path → Taken fs b →
        AllTaken (path_trees path (tree (exp_tree b) no_trees)) (each fs (path_children path ++ (b ∷ [])) (path_children (path_lifted path) ++ (exp_lifted b ∷ [])))
    upd_taken fs Here b h k = (k, tt)
    upd_taken fs (IntoField k path) b h i = upd_taken fs path b h i
    upd_taken fs (IntoElement e path) b h k = (exp_taken fs e h.0, upd_taken fs path b h.1 k)

  -- those of a path, and then more claims
  pub path_taken_with : (fs : List Fact) (path : Path) (ts : Trees Rule) (cs : List Claim) → IsPathReady l fs path → AllTaken ts cs →
      AllTaken (path_trees path ts) (each fs (path_children path) (path_children (path_lifted path)) ++ cs)
  path_taken_with fs Here ts cs h k = k
  path_taken_with fs (IntoField j path) ts cs h k = path_taken_with fs path ts cs h k
  path_taken_with fs (IntoElement e path) ts cs h k = (exp_taken fs e h.0, path_taken_with fs path ts cs h.1 k)
