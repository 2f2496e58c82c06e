-- Which struct may stand behind those of a layout, as the code tests it.
use Rattle.std.proofs.Common.{◌≡◌, ℕ, ◌+◌, ◌<◌, Bool, true, false, not, cond, ◌&&◌, ◌||◌, List, [], ◌∷◌, get_or, length, map, drop, refl, sym, ap, ◌∙◌, add-one, subst}
use Rattle.std.proofs.Math.Seq.{drop-cons}
use Rattle.std.proofs.lemmas.Bool.{true≢false}
use Rattle.std.specs.Prelude.{◌==◌, Option, Some, None, is_some}
use Rattle.c_values.specs.Name.{Name, same_name, is_among}
use Rattle.c_values.specs.Layout.{Layout, Shape, StructDef, Member, is_complete, has_member, all_members_complete, shape_of}
use Rattle.c_values.specs.Types.{CType}
use Rattle.c_values.specs.Growth.{struct_named, struct_names, can_follow}
use Rattle.c_values.proofs.Laid.{same_name-refl, name_is, other_name}

same_either_way : (x y : Name) → (b : Bool) → same_name x y ≡ b → same_name y x ≡ b
same_either_way x y true h = ap (λ z. same_name y z) (name_is x y h) ∙ same_name-refl y
same_either_way x y false h = other_name x y h

either_way : (x y : Name) → same_name y x ≡ same_name x y
either_way x y = same_either_way x y (same_name x y) refl

-- the names are those of the structs that are found
pub among_named : (ds : List StructDef) (x : Name) → is_some (struct_named ds x) ≡ is_among x (map (λ d. d.name) ds)
among_named [] x = refl
among_named (d ∷ ds) x = by_cases (same_name d.name x) (same_name x d.name) (either_way d.name x) (struct_named ds x) (is_among x (map (λ e. e.name) ds)) (among_named ds x)
  where
    by_cases : (a b : Bool) → b ≡ a → (o : Option StructDef) (c : Bool) → is_some o ≡ c → is_some (cond a (Some d) o) ≡ (b || c)
    by_cases true true e o c h = refl
    by_cases false false e o c h = h
    by_cases true false e o c h = absurd (true≢false (sym e))
    by_cases false true e o c h = absurd (true≢false e)

next : (ms : List Member) (i : ℕ) (m : Member) → i < length ms → m ≡ get_or ms i m → drop i ms ≡ m ∷ drop (i + 1) ms
next ms i m within here = drop-cons ms i m within ∙ rw (add-one, ← here) refl

-- one member further
pub complete_further : (f : CType → Shape) (ms : List Member) (i : ℕ) (m : Member) → i < length ms → m ≡ get_or ms i m → is_complete (f m.type) ≡ true →
    all_members_complete f (drop i ms) ≡ all_members_complete f (drop (i + 1) ms)
complete_further f ms i m within here complete =
    ap (all_members_complete f) (next ms i m within here) ∙ ap (λ b. b && all_members_complete f (drop (i + 1) ms)) complete

pub incomplete_here : (f : CType → Shape) (ms : List Member) (i : ℕ) (m : Member) → i < length ms → m ≡ get_or ms i m → is_complete (f m.type) ≡ false →
    all_members_complete f (drop i ms) ≡ false
incomplete_here f ms i m within here incomplete =
    ap (all_members_complete f) (next ms i m within here) ∙ ap (λ b. b && all_members_complete f (drop (i + 1) ms)) incomplete

pub taken : (l : Layout) (d e : StructDef) → Some e ≡ struct_named l.structs d.name → false ≡ can_follow l d
taken l d e h =
    by_cases (is_among d.name (struct_names l)) (sym (among_named l.structs d.name) ∙ ap is_some (sym h))
  where
    by_cases : (b : Bool) → b ≡ true → false ≡ (not b && has_member d.members && all_members_complete (shape_of l) d.members)
    by_cases true h' = refl
    by_cases false h' = absurd (true≢false (sym h'))

pub free : (l : Layout) (d : StructDef) → None ≡ struct_named l.structs d.name → (has_member d.members && all_members_complete (shape_of l) d.members) ≡ can_follow l d
free l d h =
    by_cases (is_among d.name (struct_names l)) (sym (among_named l.structs d.name) ∙ ap is_some (sym h))
  where
    by_cases : (b : Bool) → b ≡ false → (has_member d.members && all_members_complete (shape_of l) d.members) ≡ (not b && has_member d.members && all_members_complete (shape_of l) d.members)
    by_cases true h' = absurd (true≢false h')
    by_cases false h' = refl

pub has_some : {A : Type 0} (f : A → Member) (ms : List A) (n : ℕ) → n ≡ length ms → (n == 0) ≡ false → has_member (map f ms) ≡ true
has_some f [] n e h = absurd (true≢false (subst (λ m. (m == 0) ≡ false) e h))
has_some f (m ∷ ms) n e h = refl
