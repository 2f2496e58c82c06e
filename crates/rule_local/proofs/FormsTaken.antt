-- A tree that takes the form of one side to that of the other, where no name that is assigned is lost, is accepted.
use Rattle.std.proofs.Common.{◌≡◌, Bool, true, false, not, ◌&&◌, ◌||◌, List, [], ◌∷◌, refl, sym, subst}
use Rattle.std.proofs.lemmas.Bool.{false≢true, or_parts, or_left, or_right}
use Rattle.c_values.specs.Name.{Name, is_among}
use Rattle.simpl_lang.specs.Command as C
use Rattle.simpl_lang.specs.Command.{Simpl}
use Rattle.monad_lang.specs.Program as M
use Rattle.monad_lang.specs.Program.{Mon}
use Rattle.monad_lang.specs.Names.{is_free}
use Rattle.monad_lang.specs.Reach.{IfTrue}
use Rattle.rule_trees.specs.RuleTree.{Tree, node, Trees, no_trees, tree, Accepts, AcceptsAll}
use Rattle.rule_local.specs.Assigned.{assigns, Carries}
use Rattle.rule_local.specs.Rule.{Rule, Seq, Cond, Guard, While, Start, Context, Claim, whole}
use Rattle.rule_local.specs.Table.{table, is_needed, AllFreeAmong}
use Rattle.rule_local.specs.CodeRow.{arity, claim, claims, Fits, HandsOn, forms}
use Rattle.rule_local.specs.CodeUses.{loses, loses_in, LosesNone, IsKept}
use Rattle.rule_local.proofs.Rows.{row_of, parts_are_claims}

-- no name that the command assigns is lost
abbrev pub NoneLost : Simpl → (Name → Bool) → Type 0
NoneLost a lost = (y : Name) → assigns y a ≡ true → lost y ≡ false

-- in a part of a function
abbrev PartLosesNone : Claim → Type 0
PartLosesNone c = (c.is_whole ≡ false) × NoneLost c.left (λ y. loses y c.left c.right c.outputs)

abbrev AllLoseNone : List Claim → Type 0
AllLoseNone [] = Unit {0}
AllLoseNone (c ∷ cs) = PartLosesNone c × AllLoseNone cs

handed_on : (a u n : Bool) → a ≡ true → n ≡ true → (not u && a && n) ≡ false → u ≡ true
handed_on true true n h k e = refl
handed_on true false true h k e = absurd (false≢true (sym e))
handed_on true false false h k e = absurd (false≢true k)
handed_on false u n h k e = absurd (false≢true h)

hands : (ctx : Context) (w : Bool) (vs : List Name) (rule : Rule) (a : Simpl) (m : Mon) → Fits ctx w vs rule a m → NoneLost a (λ y. loses_in rule y a m vs) → HandsOn vs rule a m
hands ctx w vs Seq (C.Seq a b) (M.Bind m us n) f k = λ y h e.
    handed_on (assigns y a) (is_among y us) (is_free y n) h e
    (or_parts (loses y a m us || loses y b n vs) (not (is_among y us) && assigns y a && is_free y n) (k y (or_left (assigns y a) (assigns y b) h))).1
hands ctx w vs While (C.While gs e a) (M.Bind (M.Loop starts guard e' m) us n) f k = λ y h i.
    handed_on (assigns y a) (is_among y us) (is_needed guard e' m vs y) h i
    (or_parts (loses y a m us) (not (is_among y us) && assigns y a && is_needed guard e' m vs y) (k y h)).1
hands ctx w vs Seq a m f k = absurd f
hands ctx w vs While (C.While gs e a) (M.Bind m us n) f k = absurd f.0
hands ctx w vs While a m f k = absurd f
hands ctx w vs rule a m f k = tt

parts_lose_none : (ctx : Context) (w : Bool) (vs : List Name) (rule : Rule) (a : Simpl) (m : Mon) → Fits ctx w vs rule a m → NoneLost a (λ y. loses_in rule y a m vs) →
    AllLoseNone (claims (arity rule) rule (claim a m vs w))
parts_lose_none ctx w vs Seq (C.Seq a b) (M.Bind m us n) f k = (
  (refl, (λ y h. (parts y (k y (or_left (assigns y a) (assigns y b) h))).0)),
  ((refl, (λ y h. (parts y (k y (or_right (assigns y a) (assigns y b) h))).1)), tt),
)
  where
    parts : (y : Name) → loses y (C.Seq a b) (M.Bind m us n) vs ≡ false → (loses y a m us ≡ false) × (loses y b n vs ≡ false)
    parts y e = or_parts (loses y a m us) (loses y b n vs) (or_parts (loses y a m us || loses y b n vs) (not (is_among y us) && assigns y a && is_free y n) e).0
parts_lose_none ctx w vs Cond (C.Cond e a b) (M.If e' m n) f k = (
  (refl, (λ y h. (or_parts (loses y a m vs) (loses y b n vs) (k y (or_left (assigns y a) (assigns y b) h))).0)),
  ((refl, (λ y h. (or_parts (loses y a m vs) (loses y b n vs) (k y (or_right (assigns y a) (assigns y b) h))).1)), tt),
)
parts_lose_none ctx w vs Guard (C.Guard g a) (M.Bind m us n) f k = ((refl, k), tt)
parts_lose_none ctx w vs While (C.While gs e a) (M.Bind (M.Loop starts guard e' m) us n) f k =
    ((refl, (λ y h. (or_parts (loses y a m us) (not (is_among y us) && assigns y a && is_needed guard e' m vs y) (k y h)).0)), tt)
parts_lose_none ctx w vs Start a (M.Bind m us n) f k = ((refl, k), tt)
parts_lose_none ctx w vs While (C.While gs e a) (M.Bind m us n) f k = absurd f.0
parts_lose_none ctx w vs Seq a m f k = absurd f
parts_lose_none ctx w vs Cond a m f k = absurd f
parts_lose_none ctx w vs Guard a m f k = absurd f
parts_lose_none ctx w vs While a m f k = absurd f
parts_lose_none ctx w vs Start a m f k = absurd f
parts_lose_none _ _ _ _ _ _ _ _ = tt

-- a part doesn't begin with zeros
in_part : (ctx : Context) (rule : Rule) (y : Name) (a : Simpl) (m : Mon) (vs : List Name) → Fits ctx false vs rule a m → loses y a m vs ≡ false → loses_in rule y a m vs ≡ false
in_part ctx Start y a (M.Bind m us n) vs f k = absurd (false≢true f.0)
in_part ctx Start y a m vs f k = absurd f
in_part ctx rule y a m vs f k = k

module _ (ctx : Context) where
  instance : (rule : Rule) (ts : Trees Rule) (c : Claim) → Accepts (forms ctx) (node rule ts) c → NoneLost c.left (λ y. loses_in rule y c.left c.right c.outputs) →
      IfTrue c.is_whole (AllFreeAmong ctx.parameters c.right) → (AllLoseNone (claims (arity rule) rule c) → AcceptsAll (table ctx) ts (claims (arity rule) rule c)) →
      Accepts (table ctx) (node rule ts) c
  instance rule ts c h k free parts =
      let row = row_of ctx c.is_whole c.outputs rule c.left c.right h.0 (hands ctx c.is_whole c.outputs rule c.left c.right h.0 k) in (
        (row, free),
        subst (λ cs. AcceptsAll (table ctx) ts cs) (sym (parts_are_claims ctx c.is_whole c.outputs rule c.left c.right row))
            (parts (parts_lose_none ctx c.is_whole c.outputs rule c.left c.right h.0 k)),
      )

  in_whole : (rule : Rule) (c : Claim) → Fits ctx c.is_whole c.outputs rule c.left c.right → PartLosesNone c → NoneLost c.left (λ y. loses_in rule y c.left c.right c.outputs)
  in_whole rule c f k = λ y i. in_part ctx rule y c.left c.right c.outputs (subst (λ w. Fits ctx w c.outputs rule c.left c.right) k.0 f) (k.1 y i)

  mutual
    part_taken : (t : Tree Rule) (c : Claim) → Accepts (forms ctx) t c → PartLosesNone c → Accepts (table ctx) t c
    part_taken (node rule ts) c h k =
        instance rule ts c h (in_whole rule c h.0 k) (subst (λ w. IfTrue w (AllFreeAmong ctx.parameters c.right)) (sym k.0) tt) (all_taken ts (claims (arity rule) rule c) h.1)

    all_taken : (ts : Trees Rule) (cs : List Claim) → AcceptsAll (forms ctx) ts cs → AllLoseNone cs → AcceptsAll (table ctx) ts cs
    all_taken no_trees [] h k = tt
    all_taken (tree t ts) (c ∷ cs) h k = (part_taken t c h.0 k.0, all_taken ts cs h.1 k.1)
    all_taken _ _ h _ = absurd h

  -- of a whole function
  pub whole_taken : (rule : Rule) (ts : Trees Rule) (a : Simpl) (m : Mon) (vs : List Name) → Accepts (forms ctx) (node rule ts) (whole a m vs) → LosesNone rule a m vs →
      AllFreeAmong ctx.parameters m → Accepts (table ctx) (node rule ts) (whole a m vs)
  whole_taken rule ts a m vs h k free = instance rule ts (whole a m vs) h k free (all_taken ts (claims (arity rule) rule (whole a m vs)) h.1)

-- each name that is assigned is kept, and each that is free is a parameter, where all of them are locals
pub none_lost : (rule : Rule) (xs ps : List Name) (a : Simpl) (m : Mon) (vs : List Name) → Carries xs a (λ y. true) → ((y : Name) → is_among y xs ≡ true → IsKept rule ps a m vs y) → LosesNone rule a m vs
none_lost rule xs ps a m vs h k y e = (k y (h y e refl)).0
