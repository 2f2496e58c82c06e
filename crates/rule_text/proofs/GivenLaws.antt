-- Rules with one part of data, made of what is read from it.
use Rattle.std.proofs.Common.{◌≡◌, ℕ, Bool, true, Some, None, Ok, Err, ap, sym, subst, ◌∙◌}
use Rattle.ac_sx.specs.Tree.{Tree, Trees, no_trees, more}
use Rattle.c_values.specs.Name.{Name}
use Rattle.expression_text.specs.Reading.{Read, made}
use Rattle.expression_text.proofs.Behind.{IsReadAs}
use Rattle.expression_text.proofs.ListLaws.{IsPart}
use Rattle.rule_text.specs.declared.arity.Arity.{Arity}
use Rattle.rule_text.specs.RuleReading.{Given, Words}
use Rattle.rule_text.proofs.RuleLaws.{IsGiven, IsOf}

pub made_ok : {A B : Type 0} (f : A → B) (q : Read A) (y : B) (n : ℕ) → made f q ≡ Ok (y, n) → (x : A) × (q ≡ Ok (x, n)) × (f x ≡ y)
made_ok {A} {B} f (Ok (x, m)) y n e =
    let h : ◌≡◌ {A = B × ℕ} (f x, m) (y, n) = cc in
    (x, ap (λ (p : B × ℕ). Ok (x, p.1)) h, ap (λ (p : B × ℕ). p.0) h)
made_ok f (Err m) y n e = absurd cc

module _ {Rule : Type 0} (word : Rule → Name) (data' : Rule → Trees) (has_text : Rule → Bool) (words : Words Rule) {A : Type 0} (rule : A → Rule) (read : ℕ → Tree → Read A) (tree : A → Tree) (test : A → Bool) (v : Name) (a : Arity) where
  -- the rule that is made of what is read
  abbrev pub form : Given Rule
  form = record { arity = a; read = λ at t. made rule (read at t) }

  -- it has this word and these data, and what is read is the data's
  pub record IsForm : Type 0 where
    pub named : (x : A) → word (rule x) ≡ v
    pub text : (x : A) → data' (rule x) ≡ more (tree x) no_trees
    pub fine : (x : A) → has_text (rule x) ≡ test x
    pub arity : (x : A) → words.arity (rule x) ≡ a
    pub reads : (x : A) → test x ≡ true → IsReadAs read (tree x) x
    pub spells : (t : Tree) (at : ℕ) (x : A) (n : ℕ) → read at t ≡ Ok (x, n) → IsPart tree test t x

  pub form_reads : IsForm → (x : A) → has_text (rule x) ≡ true → words.plain v ≡ None → words.given v ≡ Some form → IsGiven word data' has_text words (rule x)
  form_reads is x fine none found = record {
    part = tree x;
    given = form;
    text = is.text x;
    no_plain = ap words.plain (is.named x) ∙ none;
    found = ap words.given (is.named x) ∙ found;
    arity = sym (is.arity x);
    reads = λ at. ap (made rule) (is.reads x (sym (is.fine x) ∙ fine) at);
  }

  pub form_spells : IsForm → (w : Name) (g : Given Rule) (at : ℕ) (t : Tree) (r : Rule) (n : ℕ) → w ≡ v → form ≡ g → g.read at t ≡ Ok (r, n) → IsOf word data' has_text words w (more t no_trees) r × (words.arity r ≡ g.arity)
  form_spells is w g at t r n same e f =
      let (x, h, made) = made_ok rule (read at t) r n (subst (λ (k : Given Rule). k.read at t ≡ Ok (r, n)) (sym e) f) in
      let p = is.spells t at x n h in (
        record {
          named = ap word (sym made) ∙ is.named x ∙ sym same;
          text = ap data' (sym made) ∙ is.text x ∙ ap (λ u. more u no_trees) (sym p.0);
          fine = ap has_text (sym made) ∙ is.fine x ∙ p.1;
        },
        ap words.arity (sym made) ∙ is.arity x ∙ ap (λ (k : Given Rule). k.arity) e,
      )
