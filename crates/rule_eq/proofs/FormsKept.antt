-- What a rule makes simpler keeps the form of programs on bytes, on typed heaps and on numbers.
use Rattle.std.proofs.Common.{◌≡◌, Bool, true, not, refl, sym, ap, ◌∙◌}
use Rattle.std.proofs.lemmas.Bool.{and_parts, and_from, not-true}
use Rattle.expression_lang.specs.Expression.{Exp, Var}
use Rattle.expression_lang.specs.Form.{is_load, is_read, is_word_arithmetic}
use Rattle.ac_expr.specs.Heads.{head}
use Rattle.monad_lang.specs.Program.{Mon, Place, Stored}
use Rattle.monad_lang.specs.Form.{program_has, is_stored, is_written, no_place, is_heaps}
use Rattle.program_facts.specs.Places.{place_head}
use Rattle.rule_eq.specs.Rule.{Rule, Point}
use Rattle.rule_eq.specs.Table.{row}
use Rattle.rule_eq.specs.Tidy.{Simplifies, KeepsForms}
use Rattle.rule_eq.proofs.SimplerForms.{simpler_free}

pub load_head : (e : Exp) → is_load (head e) ≡ is_load e
load_head (Var x) = refl
load_head e = refl

pub read_head : (e : Exp) → is_read (head e) ≡ is_read e
read_head (Var x) = refl
read_head e = refl

pub arithmetic_head : (e : Exp) → is_word_arithmetic (head e) ≡ is_word_arithmetic e
arithmetic_head (Var x) = refl
arithmetic_head e = refl

pub stored_head : (q : Place) → is_stored (place_head q) ≡ is_stored q
stored_head (Stored t p path) = refl
stored_head _ = refl

pub written_head : (q : Place) → is_written (place_head q) ≡ is_written q
written_head (Stored t p path) = refl
written_head _ = refl

-- a test of heads is the same for the same heads
pub by_head : {A : Type 0} (test : A → Bool) (of : A → A) → ((a : A) → test (of a) ≡ test a) → (a b : A) → of b ≡ of a → test b ≡ test a
by_head test of h a b e = sym (h b) ∙ ap test e ∙ h a

module _ (at : Point) (rule : Rule) (m m' : Mon) (s : Simplifies rule) (h : (row at rule m m').holds) where
  none : (test : Exp → Bool) (place_test : Place → Bool) → ((e : Exp) → test (head e) ≡ test e) → ((q : Place) → place_test (place_head q) ≡ place_test q) → not (program_has test place_test m) ≡ true → not (program_has test place_test m') ≡ true
  none test place_test k j f = ap not (simpler_free test place_test (by_head test head k) (by_head place_test place_head j) at rule m m' s h (not-true (program_has test place_test m) f))

  pub forms_kept : KeepsForms m m'
  forms_kept = record {
    bytes = none is_read is_written read_head written_head;
    heaps = none is_load is_stored load_head stored_head;
    numbers = λ f.
        let p = and_parts (is_heaps m) (not (program_has is_word_arithmetic no_place m)) f in
        and_from (is_heaps m') (not (program_has is_word_arithmetic no_place m')) (none is_load is_stored load_head stored_head p.0) (none is_word_arithmetic no_place arithmetic_head (λ q. refl) p.1);
  }
