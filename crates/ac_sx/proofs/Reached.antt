-- Where the recogniser is, the text so far is that of lists that are open and of a tree in them: so each text that it passes is the front of
-- a file.
use Rattle.std.proofs.Common.{◌≡◌, ℕ, suc, ◌+◌, ◌-◌, ◌==◌, Bool, true, false, cond, not, ◌&&◌, List, [], ◌∷◌, ◌++◌, length, Some, None, ◌⊎◌, inl, inr, refl, ap, subst, ◌∙◌, append_assoc, arith, eqb-true, count_by}
use Rattle.std.specs.Prelude.{nat_le, if◌then◌else◌}
use Rattle.std.specs.List.{list_all}
use Rattle.std.proofs.lemmas.Bool.{and_parts, and_from, not-true}
use Rattle.std.proofs.lemmas.List.Sums.{sum_by-append}
use Rattle.ac_sx.specs.declared.recogniser.Place.{Place}
use Rattle.ac_sx.specs.declared.recogniser.Place.TheVariants.{Begin, Opened, Word, Ended, Whole}
use Rattle.ac_sx.specs.declared.recogniser.Reading.{Reading}
use Rattle.ac_sx.specs.Tree.{Tree, Trees, Atom, Node, no_trees, IsTree, AreTrees, is_atom_byte, is_atom, spelling, opening, closing, space, line_end}
use Rattle.ac_sx.specs.Front.{IsFile}
use Rattle.ac_sx.specs.CodeSx.{pushed}
use Rattle.ac_sx.specs.CodeRecogniser.{reading, begun, closed, followed, step, step_at}
use Rattle.ac_sx.proofs.Spaced.{openings, AreTrees-pushed, openings-space, openings-close, openings-none}

abbrev pub opened_in : List ℕ → ℕ
opened_in text = count_by (λ b. b == opening) text

abbrev pub closed_in : List ℕ → ℕ
closed_in text = count_by (λ b. b == closing) text

abbrev pub AreStack : List Trees → Type 0
AreStack [] = Unit {0}
AreStack (ts ∷ outer) = AreTrees ts × AreStack outer

-- what the text is at a place, within these lists
abbrev pub StandsAt : Place → List Trees → List ℕ → Type 0
StandsAt Begin stack text = text ≡ openings stack
StandsAt Opened [] text = ⊥
StandsAt Opened (ts ∷ outer) text = (ts ≡ no_trees) × (text ≡ openings (ts ∷ outer))
StandsAt Word stack text = (w : List ℕ) × (is_atom w ≡ true) × (text ≡ openings stack ++ w)
StandsAt Ended stack text = (t : Tree) × IsTree t × (text ≡ openings stack ++ spelling t)
StandsAt Whole stack text = IsFile text

pub record Reached (r : Reading) (text : List ℕ) : Type 0 where
  pub stack : List Trees
  pub trees : AreStack stack
  pub lists : r.lists ≡ length stack
  pub stands : StandsAt r.place stack text
  pub counts : opened_in text ≡ closed_in text + length stack

pub counted : (p : ℕ → Bool) (text : List ℕ) (b : ℕ) → count_by p (text ++ b ∷ []) ≡ count_by p text + cond (p b) 1 0
counted p text b = let e = sum_by-append (λ x. cond (p x) 1 0) text (b ∷ []) in omega (arith, e)

pub branches : {X : Type 0} (b : Bool) (x y z : X) → cond b x y ≡ z → ((b ≡ true) × (x ≡ z)) ⊎ ((b ≡ false) × (y ≡ z))
branches true x y z e = inl (refl, e)
branches false x y z e = inr (refl, e)

pub atom_byte_is : (b : ℕ) → is_atom_byte b ≡ true → ((b == opening) ≡ false) × ((b == closing) ≡ false)
atom_byte_is b e =
    let p = and_parts (nat_le 33 b && nat_le b 126 && not (b == opening)) (not (b == closing)) e in
    let q = and_parts (nat_le 33 b && nat_le b 126) (not (b == opening)) p.0 in
    (not-true (b == opening) q.1, not-true (b == closing) p.1)

list_all-push : (p : ℕ → Bool) (w : List ℕ) (b : ℕ) → list_all p w ≡ true → p b ≡ true → list_all p (w ++ b ∷ []) ≡ true
list_all-push p [] b e f = and_from (p b) true f refl
list_all-push p (c ∷ cs) b e f =
    let h = and_parts (p c) (list_all p cs) e in
    and_from (p c) (list_all p (cs ++ b ∷ [])) h.0 (list_all-push p cs b h.1 f)

pub is_atom-push : (w : List ℕ) (b : ℕ) → is_atom w ≡ true → is_atom_byte b ≡ true → is_atom (w ++ b ∷ []) ≡ true
is_atom-push [] b e f = absurd cc
is_atom-push (c ∷ cs) b e f = list_all-push is_atom_byte (c ∷ cs) b e f

-- a byte that is no parenthesis changes no count
kept : (text : List ℕ) (b n : ℕ) → (b == opening) ≡ false → (b == closing) ≡ false → opened_in text ≡ closed_in text + n → opened_in (text ++ b ∷ []) ≡ closed_in (text ++ b ∷ []) + n
kept text b n no_opening no_closing counts =
    let o : opened_in (text ++ b ∷ []) ≡ opened_in text + 0 = counted (λ x. x == opening) text b ∙ ap (λ t. opened_in text + cond t 1 0) no_opening in
    let c : closed_in (text ++ b ∷ []) ≡ closed_in text + 0 = counted (λ x. x == closing) text b ∙ ap (λ t. closed_in text + cond t 1 0) no_closing in
    omega (arith, o, c)

raised : (text : List ℕ) (n : ℕ) → opened_in text ≡ closed_in text + n → opened_in (text ++ opening ∷ []) ≡ closed_in (text ++ opening ∷ []) + suc n
raised text n counts =
    let o = counted (λ x. x == opening) text opening in
    let c = counted (λ x. x == closing) text opening in
    omega (arith, o, c)

lowered : (text : List ℕ) (n : ℕ) → opened_in text ≡ closed_in text + suc n → opened_in (text ++ closing ∷ []) ≡ closed_in (text ++ closing ∷ []) + n
lowered text n counts =
    let o = counted (λ x. x == opening) text closing in
    let c = counted (λ x. x == closing) text closing in
    omega (arith, o, c)

begun_reached : (text : List ℕ) (n b : ℕ) (next : Reading) (stack : List Trees) → AreStack stack → n ≡ length stack → text ≡ openings stack → opened_in text ≡ closed_in text + length stack →
    begun n b ≡ Some next → Reached next (text ++ b ∷ [])
begun_reached text n b next stack trees lists stands counts e =
    elim (branches (b == opening) (Some (reading Opened (n + 1))) (if is_atom_byte b then Some (reading Word n) else None) (Some next) e) [
      | inl opens ↦
          let is : b ≡ opening = eqb-true b opening opens.0 in
          let there : reading Opened (n + 1) ≡ next = cc in
          subst (λ r. Reached r (text ++ b ∷ [])) there (record {
            stack = no_trees ∷ stack;
            trees = (tt, trees);
            lists = omega arith;
            stands = (refl, ap (λ t. t ++ b ∷ []) stands ∙ ap (λ c. openings stack ++ c ∷ []) is);
            counts = rw is (raised text (length stack) counts);
          })
      | inr other ↦ elim (branches (is_atom_byte b) (Some (reading Word n)) None (Some next) other.1) [
        | inl word ↦
            let there : reading Word n ≡ next = cc in
            let no = atom_byte_is b word.0 in
            subst (λ r. Reached r (text ++ b ∷ [])) there (record {
              stack = stack;
              trees = trees;
              lists = lists;
              stands = (b ∷ [], and_from (is_atom_byte b) true word.0 refl, ap (λ t. t ++ b ∷ []) stands);
              counts = kept text b (length stack) no.0 no.1 counts;
            })
        | inr none ↦ absurd cc
      ]
    ]

-- the end of a list that is open, behind a tree in it
closed_reached : (text : List ℕ) (n : ℕ) (next : Reading) (stack : List Trees) (t : Tree) → AreStack stack → n ≡ length stack → IsTree t → text ≡ openings stack ++ spelling t → opened_in text ≡ closed_in text + length stack →
    closed n ≡ Some next → Reached next (text ++ closing ∷ [])
closed_reached text n next [] t trees lists is stands counts e =
    elim (branches (n == 0) None (Some (reading Ended (n - 1))) (Some next) e) [
      | inl none ↦ absurd cc
      | inr some ↦ absurd (let no : (n == 0) ≡ true = ap (λ m. m == 0) lists in cc)
    ]
closed_reached text n next (ts ∷ outer) t trees lists is stands counts e =
    elim (branches (n == 0) None (Some (reading Ended (n - 1))) (Some next) e) [
      | inl none ↦ absurd cc
      | inr some ↦
          let there : reading Ended (n - 1) ≡ next = cc in
          subst (λ r. Reached r (text ++ closing ∷ [])) there (record {
            stack = outer;
            trees = trees.1;
            lists = omega arith;
            stands = (Node (pushed ts t), AreTrees-pushed ts t trees.0 is, ap (λ u. u ++ closing ∷ []) stands ∙ openings-close ts outer t);
            counts = lowered text (length outer) counts;
          })
    ]

whole_reached : (text : List ℕ) (n b : ℕ) (next : Reading) (stack : List Trees) (t : Tree) → AreStack stack → n ≡ length stack → IsTree t → text ≡ openings stack ++ spelling t → opened_in text ≡ closed_in text + length stack →
    (n == 0) ≡ true → b ≡ line_end → Some (reading Whole 0) ≡ Some next → Reached next (text ++ b ∷ [])
whole_reached text n b next [] t trees lists is stands counts none same e =
    let there : reading Whole 0 ≡ next = cc in
    subst (λ r. Reached r (text ++ b ∷ [])) there (record {
      stack = [];
      trees = tt;
      lists = refl;
      stands = (t, is, ap (λ u. u ++ b ∷ []) stands ∙ ap (λ c. spelling t ++ c ∷ []) same);
      counts = rw same (kept text line_end 0 refl refl counts);
    })
whole_reached text n b next (ts ∷ outer) t trees lists is stands counts none same e = absurd (let no : n ≡ 0 = eqb-true n 0 none in omega arith)

parted_reached : (text : List ℕ) (n b : ℕ) (next : Reading) (stack : List Trees) (t : Tree) → AreStack stack → n ≡ length stack → IsTree t → text ≡ openings stack ++ spelling t → opened_in text ≡ closed_in text + length stack →
    (n == 0) ≡ false → b ≡ space → Some (reading Begin n) ≡ Some next → Reached next (text ++ b ∷ [])
parted_reached text n b next [] t trees lists is stands counts some same e = absurd (let no : (n == 0) ≡ true = ap (λ m. m == 0) lists in cc)
parted_reached text n b next (ts ∷ outer) t trees lists is stands counts some same e =
    let there : reading Begin n ≡ next = cc in
    subst (λ r. Reached r (text ++ b ∷ [])) there (record {
      stack = pushed ts t ∷ outer;
      trees = (AreTrees-pushed ts t trees.0 is, trees.1);
      lists = lists;
      stands = ap (λ u. u ++ b ∷ []) stands ∙ ap (λ c. (openings (ts ∷ outer) ++ spelling t) ++ c ∷ []) same ∙ openings-space ts outer t;
      counts = rw same (kept text space (suc (length outer)) refl refl counts);
    })

followed_reached : (text : List ℕ) (n b : ℕ) (next : Reading) (stack : List Trees) (t : Tree) → AreStack stack → n ≡ length stack → IsTree t → text ≡ openings stack ++ spelling t → opened_in text ≡ closed_in text + length stack →
    followed n b ≡ Some next → Reached next (text ++ b ∷ [])
followed_reached text n b next stack t trees lists is stands counts e =
    elim (branches (b == closing) (closed n) (if n == 0 then (if b == line_end then Some (reading Whole 0) else None) else if b == space then Some (reading Begin n) else None) (Some next) e) [
      | inl closes ↦
          let same : b ≡ closing = eqb-true b closing closes.0 in
          rw same (closed_reached text n next stack t trees lists is stands counts closes.1)
      | inr other ↦ elim (branches (n == 0) (if b == line_end then Some (reading Whole 0) else None) (if b == space then Some (reading Begin n) else None) (Some next) other.1) [
        | inl outside ↦ elim (branches (b == line_end) (Some (reading Whole 0)) None (Some next) outside.1) [
          | inl ends ↦ whole_reached text n b next stack t trees lists is stands counts outside.0 (eqb-true b line_end ends.0) ends.1
          | inr none ↦ absurd cc
        ]
        | inr inside ↦ elim (branches (b == space) (Some (reading Begin n)) None (Some next) inside.1) [
          | inl parts ↦ parted_reached text n b next stack t trees lists is stands counts inside.0 (eqb-true b space parts.0) parts.1
          | inr none ↦ absurd cc
        ]
      ]
    ]

emptied : (text : List ℕ) (n b : ℕ) (next : Reading) (ts : Trees) (outer : List Trees) → AreStack (ts ∷ outer) → n ≡ length (ts ∷ outer) → ts ≡ no_trees → text ≡ openings (ts ∷ outer) → opened_in text ≡ closed_in text + length (ts ∷ outer) →
    b ≡ closing → closed n ≡ Some next → Reached next (text ++ b ∷ [])
emptied text n b next ts outer trees lists none stands counts same e =
    elim (branches (n == 0) None (Some (reading Ended (n - 1))) (Some next) e) [
      | inl none_open ↦ absurd cc
      | inr some ↦
          let there : reading Ended (n - 1) ≡ next = cc in
          subst (λ r. Reached r (text ++ b ∷ [])) there (record {
            stack = outer;
            trees = trees.1;
            lists = omega arith;
            stands = (Node no_trees, tt, ap (λ u. u ++ b ∷ []) stands ∙ ap (λ us. openings (us ∷ outer) ++ b ∷ []) none ∙ ap (λ c. openings (no_trees ∷ outer) ++ c ∷ []) same ∙ openings-none outer);
            counts = rw same (lowered text (length outer) counts);
          })
    ]

at_place : (place : Place) (n : ℕ) (text : List ℕ) (b : ℕ) (next : Reading) (stack : List Trees) → AreStack stack → n ≡ length stack → StandsAt place stack text → opened_in text ≡ closed_in text + length stack →
    step_at place n b ≡ Some next → Reached next (text ++ b ∷ [])
at_place Begin n text b next stack trees lists stands counts e = begun_reached text n b next stack trees lists stands counts e
at_place Opened n text b next [] trees lists stands counts e = absurd stands
at_place Opened n text b next (ts ∷ outer) trees lists stands counts e =
    elim (branches (b == closing) (closed n) (begun n b) (Some next) e) [
      | inl closes ↦ emptied text n b next ts outer trees lists stands.0 stands.1 counts (eqb-true b closing closes.0) closes.1
      | inr other ↦ begun_reached text n b next (ts ∷ outer) trees lists stands.1 counts other.1
    ]
at_place Word n text b next stack trees lists (w, is, stands) counts e =
    elim (branches (is_atom_byte b) (Some (reading Word n)) (followed n b) (Some next) e) [
      | inl word ↦
          let there : reading Word n ≡ next = cc in
          let no = atom_byte_is b word.0 in
          subst (λ r. Reached r (text ++ b ∷ [])) there (record {
            stack = stack;
            trees = trees;
            lists = lists;
            stands = (w ++ b ∷ [], is_atom-push w b is word.0, ap (λ t. t ++ b ∷ []) stands ∙ append_assoc (openings stack) w (b ∷ []));
            counts = kept text b (length stack) no.0 no.1 counts;
          })
      | inr other ↦ followed_reached text n b next stack (Atom w) trees lists is stands counts other.1
    ]
at_place Ended n text b next stack trees lists (t, is, stands) counts e = followed_reached text n b next stack t trees lists is stands counts e
at_place Whole n text b next stack trees lists stands counts e = absurd cc

-- one byte more
pub reached_next : (r : Reading) (text : List ℕ) (b : ℕ) (next : Reading) → Reached r text → step r b ≡ Some next → Reached next (text ++ b ∷ [])
reached_next r text b next h e = at_place r.place r.lists text b next h.stack h.trees h.lists h.stands h.counts e
