-- Which kind a name has among more names.
use Rattle.std.proofs.Common.{◌≡◌, ℕ, zero, suc, Bool, true, false, cond, List, [], ◌∷◌, ◌++◌, map, string_bytes, Option, Some, None, refl, ap, ◌∙◌}
use Rattle.std.specs.Option.{option_map}
use Rattle.c_values.specs.Name.{Name, same_name}
use Rattle.expression_lang.specs.Sort.{Kind}
use Rattle.expression_lang.specs.CodeExpression.{kind_of}
use Rattle.expression_lang.specs.CodeSignature.{binder_of}
use Rattle.expression_lang.specs.Signature.{Binder, binder, names_of, kinds_of}
use Rattle.expression_lang.specs.declared.signatures.Binder as B
use Rattle.monad_lang.specs.Program as M
use Rattle.monad_lang.specs.Program.{Mon}
use Rattle.rule_trees.specs.RuleTree.{Tree, node, Trees, tree, no_trees, count}
use Rattle.rule_word.specs.Rule as R
use Rattle.rule_word.specs.Rule.{Rule}
use Rattle.rule_word.specs.Scopes.{names_in, with_kinds}
use Rattle.rule_word.specs.CodeNames.{with_passed, kind_among, kind_passed, kind_in}
use Rattle.rule_word.specs.CodeClaims.{is_bind}

among : (xs : List Name) (ks : List Kind) (bs : List Binder) (y : Name) → kind_in (with_kinds xs ks bs) y ≡ kind_among xs ks y (kind_in bs y)
among (x ∷ xs) (k ∷ ks) bs y = among xs ks (binder x k ∷ bs) y
among [] ks bs y = refl
among (x ∷ xs) [] bs y = refl

-- what is found first is kept, or replaced alike
abbrev or_else : Option Kind → Option Kind → Option Kind
or_else None o = o
or_else (Some k) o = Some k

cond_else : (b : Bool) (k : Kind) (found o : Option Kind) → cond b (Some k) (or_else found o) ≡ or_else (cond b (Some k) found) o
cond_else true k found o = refl
cond_else false k found o = refl

found_else : (xs : List Name) (ks : List Kind) (y : Name) (found o : Option Kind) → kind_among xs ks y (or_else found o) ≡ or_else (kind_among xs ks y found) o
found_else (x ∷ xs) (k ∷ ks) y found o = ap (λ q. kind_among xs ks y q) (cond_else (same_name x y) k found o) ∙ found_else xs ks y (cond (same_name x y) (Some k) found) o
found_else [] ks y found o = refl
found_else (x ∷ xs) [] y found o = refl

pub kind_found : (xs : List Name) (ks : List Kind) (y : Name) (k : Kind) (o : Option Kind) → kind_among xs ks y None ≡ Some k → kind_among xs ks y o ≡ Some k
kind_found xs ks y k o h = found_else xs ks y None o ∙ ap (λ q. or_else q o) h

pub kind_missed : (xs : List Name) (ks : List Kind) (y : Name) (o : Option Kind) → kind_among xs ks y None ≡ None → kind_among xs ks y o ≡ o
kind_missed xs ks y o h = found_else xs ks y None o ∙ ap (λ q. or_else q o) h

pub name_found : (xs : List Name) (ks : List Kind) (bs : List Binder) (y : Name) (k : Kind) → kind_among xs ks y None ≡ Some k → kind_in (with_kinds xs ks bs) y ≡ Some k
name_found xs ks bs y k h = among xs ks bs y ∙ kind_found xs ks y k (kind_in bs y) h

pub name_missed : (xs : List Name) (ks : List Kind) (bs : List Binder) (y : Name) → kind_among xs ks y None ≡ None → kind_in (with_kinds xs ks bs) y ≡ kind_in bs y
name_missed xs ks bs y h = among xs ks bs y ∙ kind_missed xs ks y (kind_in bs y) h

pub ruleset one_name = (name_found, name_missed)

-- the last of binders comes first
last_among : (xs : List B.Binder) (x : B.Binder) (y : Name) (found : Option Kind) →
    kind_among (names_of (map binder_of (xs ++ x ∷ []))) (kinds_of (map binder_of (xs ++ x ∷ []))) y found
    ≡ cond (same_name (string_bytes x.name) y) (Some (kind_of x.kind)) (kind_among (names_of (map binder_of xs)) (kinds_of (map binder_of xs)) y found)
last_among [] x y found = refl
last_among (a ∷ xs) x y found = last_among xs x y (cond (same_name (string_bytes a.name) y) (Some (kind_of a.kind)) found)

pub last_found : (xs : List B.Binder) (x : B.Binder) (y : Name) → same_name (string_bytes x.name) y ≡ true →
    kind_among (names_of (map binder_of (xs ++ x ∷ []))) (kinds_of (map binder_of (xs ++ x ∷ []))) y None ≡ Some (kind_of x.kind)
last_found xs x y h = last_among xs x y None ∙ ap (λ b. cond b (Some (kind_of x.kind)) (kind_among (names_of (map binder_of xs)) (kinds_of (map binder_of xs)) y None)) h

pub last_missed : (xs : List B.Binder) (x : B.Binder) (y : Name) → same_name (string_bytes x.name) y ≡ false →
    kind_among (names_of (map binder_of (xs ++ x ∷ []))) (kinds_of (map binder_of (xs ++ x ∷ []))) y None ≡ kind_among (names_of (map binder_of xs)) (kinds_of (map binder_of xs)) y None
last_missed xs x y h = last_among xs x y None ∙ ap (λ b. cond b (Some (kind_of x.kind)) (kind_among (names_of (map binder_of xs)) (kinds_of (map binder_of xs)) y None)) h

pub ruleset last_name = (last_found, last_missed)

-- the same of a sequence
passed_kind : (n : ℕ) (t : Tree Rule) (m : Mon) (bs : List Binder) (y : Name) → kind_in (with_passed n t m bs) y ≡ kind_passed n t m y (kind_in bs y)
passed_kind (suc n) (node (R.Bind js) (tree t (tree u no_trees))) (M.Bind m xs rest) bs y =
    passed_kind n u rest (with_kinds xs js bs) y ∙ ap (λ q. kind_passed n u rest y q) (among xs js bs y)
passed_kind _ t m bs y = refl

passed_else : (n : ℕ) (t : Tree Rule) (m : Mon) (y : Name) (found o : Option Kind) → kind_passed n t m y (or_else found o) ≡ or_else (kind_passed n t m y found) o
passed_else (suc n) (node (R.Bind js) (tree t (tree u no_trees))) (M.Bind m xs rest) y found o =
    ap (λ q. kind_passed n u rest y q) (found_else xs js y found o) ∙ passed_else n u rest y (kind_among xs js y found) o
passed_else _ t m y found o = refl

pub passed_found : (n : ℕ) (t : Tree Rule) (m : Mon) (bs : List Binder) (y : Name) (k : Kind) → kind_passed n t m y None ≡ Some k → kind_in (with_passed n t m bs) y ≡ Some k
passed_found n t m bs y k h = passed_kind n t m bs y ∙ passed_else n t m y None (kind_in bs y) ∙ ap (λ q. or_else q (kind_in bs y)) h

pub passed_missed : (n : ℕ) (t : Tree Rule) (m : Mon) (bs : List Binder) (y : Name) → kind_passed n t m y None ≡ None → kind_in (with_passed n t m bs) y ≡ kind_in bs y
passed_missed n t m bs y h = passed_kind n t m bs y ∙ passed_else n t m y None (kind_in bs y) ∙ ap (λ q. or_else q (kind_in bs y)) h

-- what a name has, by its kind
cond_map : {A : Type 0} (f : Kind → A) (b : Bool) (k : Kind) (o : Option Kind) → cond b (Some (f k)) (option_map f o) ≡ option_map f (cond b (Some k) o)
cond_map f true k o = refl
cond_map f false k o = refl

pub by_kind : {A : Type 0} (f : Kind → A) (bs : List Binder) (x : Name) → names_in f bs x ≡ option_map f (kind_in bs x)
by_kind f [] x = refl
by_kind f (b ∷ bs) x = ap (λ o. cond (same_name b.name x) (Some (f b.kind)) o) (by_kind f bs x) ∙ cond_map f (same_name b.name x) b.kind (kind_in bs x)

-- where a sequence ends, no name is passed
pub no_bind : (n : ℕ) (r : Rule) (ts : Trees Rule) (m : Mon) (y : Name) (found : Option Kind) → is_bind r ≡ false → kind_passed n (node r ts) m y found ≡ found
no_bind (suc n) (R.Bind js) ts m y found h = absurd cc
no_bind _ _ _ _ _ _ _ = refl

pub not_two : (n : ℕ) (r : Rule) (ts : Trees Rule) (m : Mon) (y : Name) (found : Option Kind) → (count ts ≡ 2 → ⊥) → kind_passed n (node r ts) m y found ≡ found
not_two (suc n) (R.Bind js) (tree a (tree b no_trees)) m y found h = absurd (h refl)
not_two _ _ _ _ _ _ _ = refl

pub no_names : (n : ℕ) (js : List Kind) (a b : Tree Rule) (m : Mon) (y : Name) (found : Option Kind) → ((l : Mon) (xs : List Name) (r : Mon) → m ≡ M.Bind l xs r → ⊥) →
    kind_passed n (node (R.Bind js) (tree a (tree b no_trees))) m y found ≡ found
no_names n js a b (M.Bind l xs r) y found h = absurd (h l xs r refl)
no_names zero js a b m y found h = refl
no_names (suc n) js a b m y found h = refl
