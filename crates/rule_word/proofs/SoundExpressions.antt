-- The rules of expressions are sound: one lemma for each row of the table.
use Rattle.std.proofs.Common.{◌≡◌, ℕ, suc, Bool, true, false, not, ◌&&◌, ◌||◌, List, [], ◌∷◌, length, Option, Some, None, ℤ, pos, refl, sym, subst, ap, ap₂, ◌∙◌}
use Rattle.std.proofs.lemmas.Bool.{and_parts, ltb-true}
use Rattle.std.specs.Prelude.{neg_ℤ, int_lt, int_le}
use Rattle.c_values.specs.Name.{Name}
use Rattle.c_values.specs.Word.{Word, IsWord, unsigned, signed, word, WordOp, Wadd, Wsub, Wmul, Wudiv, Wumod, Wsdiv, Wsmod, Wneg, Wult, Wule, Wslt, Wsle, word_op, word_unary}
use Rattle.c_values.specs.Number as N
use Rattle.c_values.specs.Number.{quotient, remainder, is_between, least, greatest}
use Rattle.c_values.specs.Value.{Value, Bits, Number, Truth, word_in, number_in, truth_in, same_value}
use Rattle.c_values.specs.Layout.{Layout, IsLayout, GlobalVar, global_type}
use Rattle.c_values.specs.Path.{IsBits}
use Rattle.c_values.proofs.WordResults.{unsigned_quotient, unsigned_remainder, positive_cast}
use Rattle.c_values.proofs.WordValues.{word-unsigned, word-signed}
use Rattle.c_values.proofs.Options.{some_is, none_is}
use Rattle.expression_lang.specs.Expression as X
use Rattle.expression_lang.specs.Expression.{Exp}
use Rattle.expression_lang.specs.Evaluation.{Env, State, value, if_truth}
use Rattle.expression_lang.specs.Sort.{Kind, WordKind, NatKind, IntKind, BoolKind, Scalar, Of, WordSort, Scope, Sort, sort_of, word_sort, word_width, where_holds, of_word, is_width, cast_fits}
use Rattle.expression_lang.specs.Signature.{values_of}
use Rattle.expression_lang.specs.States.{IsOfSort, IsEnvironment, IsState}
use Rattle.expression_lang.proofs.Inversion.{where_inv}
use Rattle.ac_expr.specs.Fact.{Fact, Whole, NotTrue, AllSay}
use Rattle.ac_expr.specs.Heads.{head, children}
use Rattle.ac_expr.specs.Known.{IsKnown}
use Rattle.ac_expr.proofs.HeadsAgree.{as_many, heads_agree, LooksAlike}
use Rattle.rule_trees.specs.RuleTree.{AllHold, Tree, Accepts}
use Rattle.rule_trees.proofs.Induction.{holds as accepted_holds}
use Rattle.rule_word.specs.Rule as R
use Rattle.rule_word.specs.Rule.{Rule, Context, Point, View, AsIs, Unsigned, Signed, Claim, expression, program}
use Rattle.rule_word.specs.Scopes.{names_in, words, sort_seen, view_for, own, width_in}
use Rattle.rule_word.specs.Table.{knowing, truth, constant, number_width, IsInRange, of_width, each, owns, is_operator, expression_row, table}
use Rattle.rule_word.specs.Exact.{seen, Meets, IsSeenAs}
use Rattle.ac_expr.proofs.KnownHolds.{known_holds}
use Rattle.program_facts.proofs.SortedValues.{value_sorted}
use Rattle.rule_word.proofs.WordViews as W
use Rattle.rule_word.proofs.WordViews.{Fits}
use Rattle.rule_word.proofs.SameWords.{unsigned_same, signed_same}

is_bits : (n : ℕ) (v : Value) → IsBits n v → (v ≡ Bits (word_in v)) × IsWord n (word_in v)
is_bits n (Bits w) h = (refl, h)
is_bits _ _ h = absurd h

pub one_less : (m n : ℕ) → suc m ≡ suc n → m ≡ n
one_less m n h = cc

-- a scalar's value is of its sort
pub scalar_sorted : (g : Scope) → IsLayout g.layout → (vs : List GlobalVar) → g.globals ≡ global_type vs → (env : Env) → IsEnvironment g env → (s : State) → IsState g.layout vs s →
    (e : Exp) (c : Scalar) → sort_of g e ≡ Some (Of c) → IsOfSort c (value g.layout env s e)
scalar_sorted g h vs k env n s i e c q = value_sorted g h vs k env n s i e (Of c) q

module _ (ctx : Context) (lay : IsLayout ctx.layout) where
  abbrev l : Layout
  l = ctx.layout

  abbrev scope_at : Point → Scope
  scope_at at = (words ctx at.names).scope

  -- the left side has the view's sort, and the right side is what is seen of it
  pub record Seen (at : Point) (e : Exp) (v : View) (a : Exp) : Type 0 where
    pub sort : sort_of (words ctx at.names).scope e ≡ sort_seen v
    pub is : IsSeenAs ctx at e v a

  word_at : (at : Point) (e : Exp) (n : ℕ) → sort_of (scope_at at) e ≡ word_sort n → (env env' : Env) (s : State) → Meets ctx at env env' s →
      (value l env s e ≡ Bits (word_in (value l env s e))) × IsWord n (word_in (value l env s e))
  word_at at e n q env env' s m = is_bits n (value l env s e) (scalar_sorted (scope_at at) lay ctx.globals refl env m.environment s m.state e (WordSort n) q)

  module _ (at : Point) where
    abbrev g : Scope
    g = scope_at at

    var : (x : Name) (v : View) (y : Name) → y ≡ x → names_in view_for at.names x ≡ Some v → IsSeenAs ctx at (X.Var x) v (X.Var y)
    var x v y e q env env' s m = subst (λ z. env' z ≡ seen v (env x)) (sym e) (m.names x v q)

    const : (e : Exp) (v : View) (a : Exp) → constant v e ≡ Some a → IsSeenAs ctx at e v a
    const (X.WordLit w) (AsIs o) a q env env' s m = ap (value l env' s) (sym (some_is q))
    const (X.NumberLit n) (AsIs o) a q env env' s m = ap (value l env' s) (sym (some_is q))
    const (X.TruthLit b) (AsIs o) a q env env' s m = ap (value l env' s) (sym (some_is q))
    const (X.WordLit w) (Unsigned n) a q env env' s m = ap (value l env' s) (sym (some_is q))
    const (X.WordLit w) (Signed n) a q env env' s m = ap (value l env' s) (sym (some_is q))
    const e (AsIs o) a q env env' s m = none_is q
    const e (Unsigned n) a q env env' s m = none_is q
    const e (Signed n) a q env env' s m = none_is q

    word_of : (k : Kind) (e : Exp) (o : Option Sort) (n : ℕ) (a : Exp) → number_width k ≡ Some n → Seen at e (view_for k) a → IsSeenAs ctx at e (AsIs o) (X.ToWord n a)
    word_of (NatKind j) e o n a q c env env' s m =
        let w = word_at at e j c.sort env env' s m in
        subst (λ i. value l env' s (X.ToWord i a) ≡ value l env s e) (some_is q)
        (ap (λ u. Bits (word j (number_in u))) (c.is env env' s m) ∙ ap (λ u. Bits u) (word-unsigned j (word_in (value l env s e)) w.1) ∙ sym w.0)
    word_of (IntKind j) e o n a q c env env' s m =
        let w = word_at at e j c.sort env env' s m in
        subst (λ i. value l env' s (X.ToWord i a) ≡ value l env s e) (some_is q)
        (ap (λ u. Bits (word j (number_in u))) (c.is env env' s m) ∙ ap (λ u. Bits u) (word-signed j (word_in (value l env s e)) w.1) ∙ sym w.0)
    word_of (WordKind j) e o n a q c env env' s m = none_is q
    word_of BoolKind e o n a q c env env' s m = none_is q

    -- what is known to be in range is
    in_range : (env env' : Env) (s : State) → Meets ctx at env env' s → (low high : ℤ) (r : Exp) → IsKnown at.facts (X.Between low r high) → is_between low (number_in (value l env' s r)) high ≡ true
    in_range env env' s m low high r k = known_holds l env' s at.facts (X.Between low r high) m.facts k

    -- the number on the right, where the operation on words is exact
    exactly : (f : ℤ → ℤ → ℤ) (low high x y x' y' : ℤ) (r : ℤ) → x' ≡ x → y' ≡ y → is_between low (f x' y') high ≡ true → (is_between low (f x y) high ≡ true → r ≡ f x y) → Number (f x' y') ≡ Number r
    exactly f low high x y x' y' r p q k h =
        let e : f x' y' ≡ f x y = ap₂ f p q in
        ap (λ z. Number z) (e ∙ sym (h (subst (λ z. is_between low z high ≡ true) e k)))

    binary : (op : WordOp) (o : N.NumberOp) (a b a' b' : Exp) (v : View) → IsInRange at.facts v (X.Arith o a' b') → Seen at a v a' → Seen at b v b' →
        ((n : ℕ) (x y : Word) → IsWord n x → IsWord n y → Fits false n (N.number_op o (unsigned x) (unsigned y)) → unsigned (word_op op x y) ≡ N.number_op o (unsigned x) (unsigned y)) →
        ((n : ℕ) (x y : Word) → IsWord n x → IsWord n y → Fits true n (N.number_op o (signed x) (signed y)) → signed (word_op op x y) ≡ N.number_op o (signed x) (signed y)) →
        IsSeenAs ctx at (X.WordBinary op a b) v (X.Arith o a' b')
    binary op o a b a' b' (AsIs t) r c d h k env env' s m = absurd r
    binary op o a b a' b' (Unsigned n) r c d h k env env' s m =
        exactly (N.number_op o) (least false n) (greatest false n) (unsigned (word_in (value l env s a))) (unsigned (word_in (value l env s b))) (number_in (value l env' s a')) (number_in (value l env' s b'))
        (unsigned (word_op op (word_in (value l env s a)) (word_in (value l env s b))))
        (ap number_in (c.is env env' s m)) (ap number_in (d.is env env' s m)) (in_range env env' s m (least false n) (greatest false n) (X.Arith o a' b') r)
        (h n (word_in (value l env s a)) (word_in (value l env s b)) (word_at at a n c.sort env env' s m).1 (word_at at b n d.sort env env' s m).1)
    binary op o a b a' b' (Signed n) r c d h k env env' s m =
        exactly (N.number_op o) (least true n) (greatest true n) (signed (word_in (value l env s a))) (signed (word_in (value l env s b))) (number_in (value l env' s a')) (number_in (value l env' s b'))
        (signed (word_op op (word_in (value l env s a)) (word_in (value l env s b))))
        (ap number_in (c.is env env' s m)) (ap number_in (d.is env env' s m)) (in_range env env' s m (least true n) (greatest true n) (X.Arith o a' b') r)
        (k n (word_in (value l env s a)) (word_in (value l env s b)) (word_at at a n c.sort env env' s m).1 (word_at at b n d.sort env env' s m).1)

    negation : (a a' : Exp) (v : View) → IsInRange at.facts v (X.Negate a') → Seen at a v a' → IsSeenAs ctx at (X.WordUnary Wneg a) v (X.Negate a')
    negation a a' (AsIs t) r c env env' s m = absurd r
    negation a a' (Unsigned n) r c env env' s m =
        exactly (λ x y. neg_ℤ x) (least false n) (greatest false n) (unsigned (word_in (value l env s a))) (pos 0) (number_in (value l env' s a')) (pos 0)
        (unsigned (word_unary Wneg (word_in (value l env s a)))) (ap number_in (c.is env env' s m)) refl (in_range env env' s m (least false n) (greatest false n) (X.Negate a') r)
        (W.unsigned_negation n (word_in (value l env s a)) (word_at at a n c.sort env env' s m).1)
    negation a a' (Signed n) r c env env' s m =
        exactly (λ x y. neg_ℤ x) (least true n) (greatest true n) (signed (word_in (value l env s a))) (pos 0) (number_in (value l env' s a')) (pos 0)
        (signed (word_unary Wneg (word_in (value l env s a)))) (ap number_in (c.is env env' s m)) refl (in_range env env' s m (least true n) (greatest true n) (X.Negate a') r)
        (W.signed_negation n (word_in (value l env s a)) (word_at at a n c.sort env env' s m).1)

    udiv : (n : ℕ) (a b a' b' : Exp) → Seen at a (Unsigned n) a' → Seen at b (Unsigned n) b' → IsSeenAs ctx at (X.WordBinary Wudiv a b) (Unsigned n) (X.Arith N.Div a' b')
    udiv n a b a' b' c d env env' s m =
        ap₂ (λ x y. Number (quotient x y)) (ap number_in (c.is env env' s m)) (ap number_in (d.is env env' s m))
        ∙ ap (λ z. Number z) (sym (unsigned_quotient n (word_in (value l env s a)) (word_in (value l env s b)) (word_at at a n c.sort env env' s m).1 (word_at at b n d.sort env env' s m).1))

    umod : (n : ℕ) (a b a' b' : Exp) → Seen at a (Unsigned n) a' → Seen at b (Unsigned n) b' → IsSeenAs ctx at (X.WordBinary Wumod a b) (Unsigned n) (X.Arith N.Mod a' b')
    umod n a b a' b' c d env env' s m =
        ap₂ (λ x y. Number (remainder x y)) (ap number_in (c.is env env' s m)) (ap number_in (d.is env env' s m))
        ∙ ap (λ z. Number z) (sym (unsigned_remainder n (word_in (value l env s a)) (word_in (value l env s b)) (word_at at a n c.sort env env' s m).1 (word_at at b n d.sort env env' s m).1))

    smod : (n : ℕ) (a b a' b' : Exp) → Seen at a (Signed n) a' → Seen at b (Signed n) b' → IsSeenAs ctx at (X.WordBinary Wsmod a b) (Signed n) (X.Arith N.Mod a' b')
    smod n a b a' b' c d env env' s m =
        ap₂ (λ x y. Number (remainder x y)) (ap number_in (c.is env env' s m)) (ap number_in (d.is env env' s m))
        ∙ ap (λ z. Number z) (sym (W.signed_remainder n (word_in (value l env s a)) (word_in (value l env s b)) (word_at at a n c.sort env env' s m).1 (word_at at b n d.sort env env' s m).1))

    sdiv : (n : ℕ) (a b a' b' : Exp) → IsKnown at.facts (X.Between (least true n) (X.Arith N.Div a' b') (greatest true n)) → Seen at a (Signed n) a' → Seen at b (Signed n) b' → IsSeenAs ctx at (X.WordBinary Wsdiv a b) (Signed n) (X.Arith N.Div a' b')
    sdiv n a b a' b' r c d env env' s m =
        exactly quotient (least true n) (greatest true n) (signed (word_in (value l env s a))) (signed (word_in (value l env s b))) (number_in (value l env' s a')) (number_in (value l env' s b'))
        (signed (word_op Wsdiv (word_in (value l env s a)) (word_in (value l env s b))))
        (ap number_in (c.is env env' s m)) (ap number_in (d.is env env' s m)) (in_range env env' s m (least true n) (greatest true n) (X.Arith N.Div a' b') r)
        (W.signed_quotient n (word_in (value l env s a)) (word_in (value l env s b)) (word_at at a n c.sort env env' s m).1 (word_at at b n d.sort env env' s m).1)

    equal : (k : Kind) (a b a' b' : Exp) (o : Option Sort) → Seen at a (view_for k) a' → Seen at b (view_for k) b' → IsSeenAs ctx at (X.Eq a b) (AsIs o) (X.Eq a' b')
    equal (WordKind n) a b a' b' o c d env env' s m = ap₂ (λ x y. Truth (same_value x y)) (c.is env env' s m) (d.is env env' s m)
    equal BoolKind a b a' b' o c d env env' s m = ap₂ (λ x y. Truth (same_value x y)) (c.is env env' s m) (d.is env env' s m)
    equal (NatKind n) a b a' b' o c d env env' s m =
        let p = word_at at a n c.sort env env' s m in
        let q = word_at at b n d.sort env env' s m in
        ap₂ (λ x y. Truth (same_value x y)) (c.is env env' s m) (d.is env env' s m)
        ∙ ap (λ t. Truth t) (unsigned_same n (word_in (value l env s a)) (word_in (value l env s b)) p.1 q.1)
        ∙ sym (ap₂ (λ x y. Truth (same_value x y)) p.0 q.0)
    equal (IntKind n) a b a' b' o c d env env' s m =
        let p = word_at at a n c.sort env env' s m in
        let q = word_at at b n d.sort env env' s m in
        ap₂ (λ x y. Truth (same_value x y)) (c.is env env' s m) (d.is env env' s m)
        ∙ ap (λ t. Truth t) (signed_same n (word_in (value l env s a)) (word_in (value l env s b)) p.1 q.1)
        ∙ sym (ap₂ (λ x y. Truth (same_value x y)) p.0 q.0)

    -- a cast to a larger width
    wider : (op : X.CastOp) (width n : ℕ) (e : Exp) (q : Sort) → sort_of g (X.Cast op width e) ≡ Some q → sort_of g e ≡ word_sort n → cast_fits op n width ≡ true
    wider op width n e q h k =
        let h' = subst (λ o. of_word (word_width o) (λ from. where_holds (is_width width && cast_fits op from width) (word_sort width)) ≡ Some q) k h in
        (and_parts (is_width width) (cast_fits op n width) (where_inv (is_width width && cast_fits op n width) (word_sort width) q h').0).1

    zext : (width j n : ℕ) (e a : Exp) → sort_of g (X.Cast X.Zext width e) ≡ word_sort j → Seen at e (Unsigned n) a → IsSeenAs ctx at (X.Cast X.Zext width e) (Unsigned j) a
    zext width j n e a h c env env' s m =
        let w = word_at at e n c.sort env env' s m in
        c.is env env' s m ∙ ap (λ z. Number z) (sym (W.unsigned_wider n width (word_in (value l env s e)) (ltb-true n width (wider X.Zext width n e (Of (WordSort j)) h c.sort)) w.1))

    zext_signed : (width j n : ℕ) (e a : Exp) → sort_of g (X.Cast X.Zext width e) ≡ word_sort j → Seen at e (Unsigned n) a → IsSeenAs ctx at (X.Cast X.Zext width e) (Signed j) a
    zext_signed width j n e a h c env env' s m =
        let w = word_at at e n c.sort env env' s m in
        c.is env env' s m ∙ ap (λ z. Number z) (sym (positive_cast n width (word_in (value l env s e)) (ltb-true n width (wider X.Zext width n e (Of (WordSort j)) h c.sort)) w.1))

    sext : (width j n : ℕ) (e a : Exp) → sort_of g (X.Cast X.Sext width e) ≡ word_sort j → Seen at e (Signed n) a → IsSeenAs ctx at (X.Cast X.Sext width e) (Signed j) a
    sext width j n e a h c env env' s m =
        let w = word_at at e n c.sort env env' s m in
        c.is env env' s m ∙ ap (λ z. Number z) (sym (W.signed_cast n width (word_in (value l env s e)) (ltb-true n width (wider X.Sext width n e (Of (WordSort j)) h c.sort)) w.1))

    -- a part that is looked at under a condition
    under : (f : Fact) (env env' : Env) (s : State) → Meets ctx at env env' s → AllSay l env' s (f ∷ []) → Meets ctx (knowing f at) env env' s
    under f env env' s m h = record { environment = m.environment; names = m.names; facts = (h.0, m.facts); state = m.state }

    both : (x y x' y' : Bool) → x' ≡ x → (x' ≡ true → y' ≡ y) → (x' && y') ≡ (x && y)
    both x y true y' p q = ap₂ (λ c d. c && d) p (q refl)
    both x y false y' p q = ap (λ c. c && y) p

    either : (x y x' y' : Bool) → x' ≡ x → (not x' ≡ true → y' ≡ y) → (x' || y') ≡ (x || y)
    either x y true y' p q = ap (λ c. c || y) p
    either x y false y' p q = ap₂ (λ c d. c || d) p (q refl)

    follows : (x y x' y' : Bool) → x' ≡ x → (x' ≡ true → y' ≡ y) → (not x' || y') ≡ (not x || y)
    follows x y true y' p q = ap₂ (λ c d. not c || d) p (q refl)
    follows x y false y' p q = ap (λ c. not c || y) p

    and : (a b a' b' : Exp) (o : Option Sort) → Seen at a truth a' → Seen (knowing (Whole a') at) b truth b' → IsSeenAs ctx at (X.And a b) (AsIs o) (X.And a' b')
    and a b a' b' o c d env env' s m =
        ap (λ t. Truth t) (both (truth_in (value l env s a)) (truth_in (value l env s b)) (truth_in (value l env' s a')) (truth_in (value l env' s b')) (ap truth_in (c.is env env' s m))
        (λ t. ap truth_in (d.is env env' s (under (Whole a') env env' s m (t, tt)))))

    or : (a b a' b' : Exp) (o : Option Sort) → Seen at a truth a' → Seen (knowing (NotTrue a') at) b truth b' → IsSeenAs ctx at (X.Or a b) (AsIs o) (X.Or a' b')
    or a b a' b' o c d env env' s m =
        ap (λ t. Truth t) (either (truth_in (value l env s a)) (truth_in (value l env s b)) (truth_in (value l env' s a')) (truth_in (value l env' s b')) (ap truth_in (c.is env env' s m))
        (λ t. ap truth_in (d.is env env' s (under (NotTrue a') env env' s m (t, tt)))))

    imp : (a b a' b' : Exp) (o : Option Sort) → Seen at a truth a' → Seen (knowing (Whole a') at) b truth b' → IsSeenAs ctx at (X.Imp a b) (AsIs o) (X.Imp a' b')
    imp a b a' b' o c d env env' s m =
        ap (λ t. Truth t) (follows (truth_in (value l env s a)) (truth_in (value l env s b)) (truth_in (value l env' s a')) (truth_in (value l env' s b')) (ap truth_in (c.is env env' s m))
        (λ t. ap truth_in (d.is env env' s (under (Whole a') env env' s m (t, tt)))))

    branch : (v : View) (x x' : Bool) (p q p' q' : Value) → x' ≡ x → (x' ≡ true → p' ≡ seen v p) → (not x' ≡ true → q' ≡ seen v q) → if_truth x' p' q' ≡ seen v (if_truth x p q)
    branch v x true p q p' q' e f h = f refl ∙ ap (λ b. seen v (if_truth b p q)) e
    branch v x false p q p' q' e f h = h refl ∙ ap (λ b. seen v (if_truth b p q)) e

    cond : (c a b c' a' b' : Exp) (v : View) → Seen at c truth c' → Seen (knowing (Whole c') at) a v a' → Seen (knowing (NotTrue c') at) b v b' → IsSeenAs ctx at (X.If c a b) v (X.If c' a' b')
    cond c a b c' a' b' v p q r env env' s m =
        branch v (truth_in (value l env s c)) (truth_in (value l env' s c')) (value l env s a) (value l env s b) (value l env' s a') (value l env' s b') (ap truth_in (p.is env env' s m))
        (λ t. q.is env env' s (under (Whole c') env env' s m (t, tt))) (λ t. r.is env env' s (under (NotTrue c') env env' s m (t, tt)))

    abbrev pub AllOwn : List Exp → List Exp → Type 0
    AllOwn (e ∷ es) (a ∷ as') = Seen at e (own g e) a × AllOwn es as'
    AllOwn _ _ = Unit {0}

    -- expressions as they are
    pub owned : (env env' : Env) (s : State) → Meets ctx at env env' s → (es as' : List Exp) → length as' ≡ length es → AllOwn es as' → values_of l env' s as' ≡ values_of l env s es
    owned env env' s m [] [] n h = refl
    owned env env' s m (e ∷ es) (a ∷ as') n h = ap₂ (λ v vs. v ∷ vs) (h.0.is env env' s m) (owned env env' s m es as' (one_less (length as') (length es) n) h.1)
    owned env env' s m [] (a ∷ as') n h = absurd cc
    owned env env' s m (e ∷ es) [] n h = absurd cc

    looks_alike : (e : Exp) (env env' : Env) (s : State) → is_operator e ≡ true → LooksAlike l env env' s s e
    looks_alike (X.Var x) env env' s h = absurd cc
    looks_alike (X.Load t p path) env env' s h = refl
    looks_alike (X.Read t p path) env env' s h = refl
    looks_alike e env env' s h = tt

    operator : (e a : Exp) (o : Option Sort) → is_operator e ≡ true → head a ≡ head e → AllOwn (children e) (children a) → IsSeenAs ctx at e (AsIs o) a
    operator e a o i h k env env' s m =
        heads_agree l env env' s s refl refl e a h (looks_alike e env env' s i) (owned env env' s m (children e) (children a) (as_many e a h) k)

  module _ (P : Claim → Type 1) (unpacked : (at : Point) (e : Exp) (v : View) (a : Exp) → P (expression at e v a) → Seen at e v a) where
    pub all_own : (at : Point) (es as' : List Exp) → AllHold P (each at es (owns (scope_at at) es) as') → AllOwn at es as'
    all_own at (e ∷ es) (a ∷ as') h = (unpacked at e (own (scope_at at) e) a h.0, all_own at es as' h.1)
    all_own at [] as' h = tt
    all_own at (e ∷ es) [] h = tt

    -- a part whose width is that of its sort
    of_its_width : (o : Option ℕ) (e : Exp) (at : Point) → width_in (scope_at at) e ≡ o → (f : ℕ → List Claim) (Q : Type 0) → (of_width o f).holds → AllHold P (of_width o f).parts → ((n : ℕ) → AllHold P (f n) → Q) → Q
    of_its_width None e at q f Q h k r = absurd h
    of_its_width (Some n) e at q f Q h k r = r n k

    -- one case for each row
    pub row_sound : (at : Point) (rule : Rule) (e : Exp) (v : View) (a : Exp) → sort_of (scope_at at) e ≡ sort_seen v → (expression_row (scope_at at) at rule e v a).holds → AllHold P (expression_row (scope_at at) at rule e v a).parts → IsSeenAs ctx at e v a
    row_sound at R.Var (X.Var x) v (X.Var y) q h s = var at x v y h.0 h.1
    row_sound at R.Const e v a q h s = const at e v a h
    row_sound at R.Nat (X.ToNat e) (AsIs o) a q h s = of_its_width (width_in (scope_at at) e) e at refl _ _ h s (λ n k. (unpacked at e (Unsigned n) a k.0).is)
    row_sound at R.Int (X.ToInt e) (AsIs o) a q h s = of_its_width (width_in (scope_at at) e) e at refl _ _ h s (λ n k. (unpacked at e (Signed n) a k.0).is)
    row_sound at (R.Word k) e (AsIs o) (X.ToWord n a) q h s = word_of at k e o n a h.0 (unpacked at e (view_for k) a s.0)
    row_sound at R.Unat e (Unsigned n) (X.ToNat a) q h s = λ env env' st m. ap (λ u. Number (unsigned (word_in u))) ((unpacked at e (AsIs (word_sort n)) a s.0).is env env' st m)
    row_sound at R.Sint e (Signed n) (X.ToInt a) q h s = λ env env' st m. ap (λ u. Number (signed (word_in u))) ((unpacked at e (AsIs (word_sort n)) a s.0).is env env' st m)
    row_sound at R.Add (X.WordBinary Wadd a b) v (X.Arith N.Add a' b') q h s = binary at Wadd N.Add a b a' b' v h (unpacked at a v a' s.0) (unpacked at b v b' s.1.0) (λ n x y i j r. W.unsigned_sum n x y i r) (λ n x y i j r. W.signed_sum n x y i j r)
    row_sound at R.Sub (X.WordBinary Wsub a b) v (X.Arith N.Sub a' b') q h s = binary at Wsub N.Sub a b a' b' v h (unpacked at a v a' s.0) (unpacked at b v b' s.1.0) (λ n x y i j r. W.unsigned_difference n x y i r) (λ n x y i j r. W.signed_difference n x y i j r)
    row_sound at R.Mul (X.WordBinary Wmul a b) v (X.Arith N.Mul a' b') q h s = binary at Wmul N.Mul a b a' b' v h (unpacked at a v a' s.0) (unpacked at b v b' s.1.0) (λ n x y i j r. W.unsigned_product n x y i r) (λ n x y i j r. W.signed_product n x y i j r)
    row_sound at R.Neg (X.WordUnary Wneg a) v (X.Negate a') q h s = negation at a a' v h (unpacked at a v a' s.0)
    row_sound at R.Udiv (X.WordBinary Wudiv a b) (Unsigned n) (X.Arith N.Div a' b') q h s = udiv at n a b a' b' (unpacked at a (Unsigned n) a' s.0) (unpacked at b (Unsigned n) b' s.1.0)
    row_sound at R.Umod (X.WordBinary Wumod a b) (Unsigned n) (X.Arith N.Mod a' b') q h s = umod at n a b a' b' (unpacked at a (Unsigned n) a' s.0) (unpacked at b (Unsigned n) b' s.1.0)
    row_sound at R.Sdiv (X.WordBinary Wsdiv a b) (Signed n) (X.Arith N.Div a' b') q h s = sdiv at n a b a' b' h (unpacked at a (Signed n) a' s.0) (unpacked at b (Signed n) b' s.1.0)
    row_sound at R.Smod (X.WordBinary Wsmod a b) (Signed n) (X.Arith N.Mod a' b') q h s = smod at n a b a' b' (unpacked at a (Signed n) a' s.0) (unpacked at b (Signed n) b' s.1.0)
    row_sound at R.Order (X.WordCompare Wult a b) (AsIs o) (X.Lt a' b') q h s = of_its_width (width_in (scope_at at) a) a at refl _ _ h s (λ n k env env' st m.
        ap₂ (λ x y. Truth (int_lt (number_in x) (number_in y))) ((unpacked at a (Unsigned n) a' k.0).is env env' st m) ((unpacked at b (Unsigned n) b' k.1.0).is env env' st m))
    row_sound at R.Order (X.WordCompare Wule a b) (AsIs o) (X.Le a' b') q h s = of_its_width (width_in (scope_at at) a) a at refl _ _ h s (λ n k env env' st m.
        ap₂ (λ x y. Truth (int_le (number_in x) (number_in y))) ((unpacked at a (Unsigned n) a' k.0).is env env' st m) ((unpacked at b (Unsigned n) b' k.1.0).is env env' st m))
    row_sound at R.Order (X.WordCompare Wslt a b) (AsIs o) (X.Lt a' b') q h s = of_its_width (width_in (scope_at at) a) a at refl _ _ h s (λ n k env env' st m.
        ap₂ (λ x y. Truth (int_lt (number_in x) (number_in y))) ((unpacked at a (Signed n) a' k.0).is env env' st m) ((unpacked at b (Signed n) b' k.1.0).is env env' st m))
    row_sound at R.Order (X.WordCompare Wsle a b) (AsIs o) (X.Le a' b') q h s = of_its_width (width_in (scope_at at) a) a at refl _ _ h s (λ n k env env' st m.
        ap₂ (λ x y. Truth (int_le (number_in x) (number_in y))) ((unpacked at a (Signed n) a' k.0).is env env' st m) ((unpacked at b (Signed n) b' k.1.0).is env env' st m))
    row_sound at (R.Eq k) (X.Eq a b) (AsIs o) (X.Eq a' b') q h s = equal at k a b a' b' o (unpacked at a (view_for k) a' s.0) (unpacked at b (view_for k) b' s.1.0)
    row_sound at R.Zext (X.Cast X.Zext m e) (Unsigned j) a q h s = of_its_width (width_in (scope_at at) e) e at refl _ _ h s (λ n k. zext at m j n e a q (unpacked at e (Unsigned n) a k.0))
    row_sound at R.Zext (X.Cast X.Zext m e) (Signed j) a q h s = of_its_width (width_in (scope_at at) e) e at refl _ _ h s (λ n k. zext_signed at m j n e a q (unpacked at e (Unsigned n) a k.0))
    row_sound at R.Sext (X.Cast X.Sext m e) (Signed j) a q h s = of_its_width (width_in (scope_at at) e) e at refl _ _ h s (λ n k. sext at m j n e a q (unpacked at e (Signed n) a k.0))
    row_sound at R.Logic (X.And a b) (AsIs o) (X.And a' b') q h s = and at a b a' b' o (unpacked at a truth a' s.0) (unpacked (knowing (Whole a') at) b truth b' s.1.0)
    row_sound at R.Logic (X.Or a b) (AsIs o) (X.Or a' b') q h s = or at a b a' b' o (unpacked at a truth a' s.0) (unpacked (knowing (NotTrue a') at) b truth b' s.1.0)
    row_sound at R.Logic (X.Imp a b) (AsIs o) (X.Imp a' b') q h s = imp at a b a' b' o (unpacked at a truth a' s.0) (unpacked (knowing (Whole a') at) b truth b' s.1.0)
    row_sound at R.Logic (X.Not a) (AsIs o) (X.Not a') q h s = λ env env' st m. ap (λ x. Truth (not (truth_in x))) ((unpacked at a truth a' s.0).is env env' st m)
    row_sound at R.Cond (X.If c a b) v (X.If c' a' b') q h s = cond at c a b c' a' b' v (unpacked at c truth c' s.0) (unpacked (knowing (Whole c') at) a v a' s.1.0) (unpacked (knowing (NotTrue c') at) b v b' s.1.1.0)
    row_sound at R.Op e (AsIs o) a q h s = operator at e a o h.0 h.1 (all_own at (children e) (children a) s)
    row_sound at _ e v a q h s = absurd h

  -- what holds of a claim of an expression, as a case of the induction over trees
  pub record There (at : Point) (e : Exp) (v : View) (a : Exp) : Type 1 where
    pub there : Seen at e v a

  abbrev OfExpressions : Claim → Type 1
  OfExpressions (expression at e v a) = There at e v a
  OfExpressions (program at m m' ks) = Unit {1}

  claim_seen : (rule : Rule) (c : Claim) → (table ctx rule c).holds → AllHold OfExpressions (table ctx rule c).parts → OfExpressions c
  claim_seen rule (expression at e v a) h s = record { there = record { sort = h.0; is = row_sound OfExpressions (λ at e v a k. k.there) at rule e v a h.0 h.1 s } }
  claim_seen rule (program at m m' ks) h s = tt

  pub taken_seen : (at : Point) (t : Tree Rule) (e : Exp) (v : View) (a : Exp) → Accepts (table ctx) t (expression at e v a) → IsSeenAs ctx at e v a
  taken_seen at t e v a h = (accepted_holds (table ctx) OfExpressions claim_seen t (expression at e v a) h).there.is
