-- Units of programs that a certificate makes: they have the signatures of the generated unit, in words or as they are, and
-- where each program is well-sorted they are well-formed.
use Rattle.std.proofs.Common.{◌≡◌, true, List, [], ◌∷◌, map, Option, Some, None, refl, sym, ap, ap₂, ◌∙◌}
use Rattle.std.proofs.lemmas.Bool.{and_from}
use Rattle.c_values.specs.Name.{are_distinct}
use Rattle.c_values.specs.Layout.{global_type}
use Rattle.expression_lang.specs.Sort.{Scalar, Kind, Scope, sort_of_kind, word_sort_of}
use Rattle.expression_lang.specs.Signature.{Signature, names_of, kinds_of}
use Rattle.expression_lang.specs.Sorted.{scope_with, result_scalars}
use Rattle.simpl_lang.specs.Command.{SimplFn, SimplUnit}
use Rattle.simpl_lang.specs.Sorted as Simpl
use Rattle.monad_lang.specs.Program.{Mon, FinalFn, FinalUnit}
use Rattle.monad_lang.specs.Sorted.{has_few, are_scalars, scalars_given, signature_of, setting_of, is_fn_sorted, are_fns_sorted, IsWellFormed}
use Rattle.rule_local.specs.Lifted.{in_words, result_in_words}
use Rattle.rule_word.specs.Scopes.{result_as_list}
use Rattle.rule_local.proofs.UnitsSorted.{few_results, sorts_in_words}
use Rattle.rule_local.proofs.UnitsLifted.{words_named}
use Rattle.pipeline.proofs.KindsFor.{word_of_result}
use Rattle.pipeline.proofs.SignaturesAlike.{result_in_word, signature_in_words, in_words_all, given_in_words}
use Rattle.acceptance.specs.Certificate.{Steps}
use Rattle.acceptance.specs.Accepted.{is_on_words, is_on_numbers, IsFunctionAccepted, AreFunctionsAccepted}
use Rattle.pipeline.specs.Units.{on_words, on_numbers, functions_with, unit_with}
use Rattle.pipeline.proofs.Signed.{IsSigned, AreSigned, words_there, result_there}

-- Functions one by one

abbrev pub AllOf : (Signature → Steps → Type 0) → List Signature → List Steps → Type 0
AllOf P [] [] = Unit {0}
AllOf P (s ∷ ss) (c ∷ cs) = P s c × AllOf P ss cs
AllOf P _ _ = ⊥

module _ (u : SimplUnit) (P : Signature → Steps → Type 0)
    (has : (f : SimplFn) (s : Signature) (c : Steps) → IsFunctionAccepted u f s c → P s c) where
  pub all_of : (fs : List SimplFn) (ss : List Signature) (cs : List Steps) → AreFunctionsAccepted u fs ss cs → AllOf P ss cs
  all_of [] [] [] h = tt
  all_of (f ∷ fs) (s ∷ ss) (c ∷ cs) h = (has f s c h.0, all_of fs ss cs h.1)
  all_of _ _ _ h = absurd h

module _ (function : Signature → Mon → FinalFn) (program : Steps → Mon) (P : Signature → Steps → Type 0) where
  -- the signatures of the functions that are made, where each one's is so
  pub signatures_made : (of : Signature → Signature) → ((s : Signature) (m : Mon) → signature_of (function s m) ≡ of s) →
      (ss : List Signature) (cs : List Steps) → AllOf P ss cs → map signature_of (functions_with function program ss cs) ≡ map of ss
  signatures_made of e [] [] h = refl
  signatures_made of e (s ∷ ss) (c ∷ cs) h = ap₂ (λ t ts. t ∷ ts) (e s (program c)) (signatures_made of e ss cs h.1)
  signatures_made of e [] (c ∷ cs) h = absurd h
  signatures_made of e (s ∷ ss) [] h = absurd h

  pub names_made : ((s : Signature) (m : Mon) → (function s m).name ≡ s.name) → (ss : List Signature) (cs : List Steps) →
      AllOf P ss cs → map (λ f. f.name) (functions_with function program ss cs) ≡ map (λ s. s.name) ss
  names_made e [] [] h = refl
  names_made e (s ∷ ss) (c ∷ cs) h = ap₂ (λ x xs. x ∷ xs) (e s (program c)) (names_made e ss cs h.1)
  names_made e [] (c ∷ cs) h = absurd h
  names_made e (s ∷ ss) [] h = absurd h

  pub functions_sorted : (v : FinalUnit) →
      ((s : Signature) (c : Steps) → IsSigned s → P s c → is_fn_sorted v (function s (program c)) ≡ true) →
      (ss : List Signature) (cs : List Steps) → AreSigned ss → AllOf P ss cs →
      are_fns_sorted v (functions_with function program ss cs) ≡ true
  functions_sorted v sorted [] [] signed h = refl
  functions_sorted v sorted (s ∷ ss) (c ∷ cs) signed h =
      and_from _ _ (sorted s c signed.0 h.0) (functions_sorted v sorted ss cs signed.1 h.1)
  functions_sorted v sorted [] (c ∷ cs) signed h = absurd h
  functions_sorted v sorted (s ∷ ss) [] signed h = absurd h

-- What is made has the signature that it is made of.

first_in_words : (s : Signature) (m : Mon) (r : Option Kind) →
    signature_of (record { name = s.name; level = s.level; params = in_words s.params; results = result_in_words r; body = m })
    ≡ record { name = s.name; level = s.level; params = in_words s.params; result = result_in_word r }
first_in_words s m None = refl
first_in_words s m (Some k) = refl

pub words_signed : (s : Signature) (m : Mon) → signature_of (on_words s m) ≡ signature_in_words s
words_signed s m = first_in_words s m s.result

first_as_is : (s : Signature) (m : Mon) (r : Option Kind) →
    signature_of (record { name = s.name; level = s.level; params = s.params; results = result_as_list r; body = m })
    ≡ record { name = s.name; level = s.level; params = s.params; result = r }
first_as_is s m None = refl
first_as_is s m (Some k) = refl

pub numbers_signed : (s : Signature) (m : Mon) → signature_of (on_numbers s m) ≡ s
numbers_signed s m = first_as_is s m s.result

-- Results

pub results_there : (f : Kind → Scalar) (r : Option Kind) → map f (result_as_list r) ≡ result_scalars f r
results_there f None = refl
results_there f (Some k) = refl

few : (r : Option Kind) → has_few (result_as_list r) ≡ true
few None = refl
few (Some k) = refl

map_itself : {A : Type 0} (xs : List A) → map (λ x. x) xs ≡ xs
map_itself [] = refl
map_itself (x ∷ xs) = ap (λ ys. x ∷ ys) (map_itself xs)

-- Units

module _ (program : Steps → Mon) (P : Signature → Steps → Type 0) where
  pub number_signatures : (ss : List Signature) (cs : List Steps) → AllOf P ss cs →
      map signature_of (functions_with on_numbers program ss cs) ≡ ss
  number_signatures ss cs h = signatures_made on_numbers program P (λ s. s) numbers_signed ss cs h ∙ map_itself ss

abbrev base : SimplUnit → Scope
base u = record { layout = u.layout; names = λ x. None; globals = global_type u.globals }

-- each program of the step gives its function's result
abbrev pub OnWords : SimplUnit → (Steps → Mon) → Signature → Steps → Type 0
OnWords u program s c = is_on_words u s (program c) ≡ true

abbrev pub OnNumbers : SimplUnit → (Steps → Mon) → Signature → Steps → Type 0
OnNumbers u program s c = is_on_numbers u s (program c) ≡ true

-- the unit over the layout and the globals
abbrev over : SimplUnit → List FinalFn → FinalUnit
over u fs = record { layout = u.layout; globals = u.globals; functions = fs }

-- a program gives the result of its function in the unit that is made just where it gives the signature's
module _ (u : SimplUnit) (fs : List FinalFn) (s : Signature) (m : Mon) where
  pub gives_words : map signature_of fs ≡ in_words_all u.signatures →
      are_scalars (map sort_of_kind (result_in_words s.result)) (scalars_given (setting_of (over u fs) (on_words s m)) m)
      ≡ is_on_words u s m
  gives_words e =
      ap₂ are_scalars (word_of_result s.result ∙ results_there word_sort_of s.result)
      (ap₂ (λ g gs. scalars_given (record { scope = g; functions = gs; sort_for = sort_of_kind }) m)
      (ap₂ (λ xs ss. scope_with xs ss (base u)) (words_named s.params) (sorts_in_words s.params)) e
      ∙ sym (given_in_words u.signatures u.signatures refl m
      (scope_with (names_of s.params) (map word_sort_of (kinds_of s.params)) (base u))))

  pub gives_numbers : map signature_of fs ≡ u.signatures →
      are_scalars (map sort_of_kind (result_as_list s.result)) (scalars_given (setting_of (over u fs) (on_numbers s m)) m)
      ≡ is_on_numbers u s m
  gives_numbers e =
      let scope = scope_with (names_of s.params) (map sort_of_kind (kinds_of s.params)) (base u) in
      ap₂ are_scalars (results_there sort_of_kind s.result)
      (ap (λ gs. scalars_given (record { scope = scope; functions = gs; sort_for = sort_of_kind }) m) e)

module _ (u : SimplUnit) (program : Steps → Mon) (cs : List Steps) where
  word_function : AllOf (OnWords u program) u.signatures cs → (s : Signature) (c : Steps) → IsSigned s →
      OnWords u program s c → is_fn_sorted (unit_with on_words program u cs) (on_words s (program c)) ≡ true
  word_function all s c signed sorted =
      and_from _ _ (and_from _ _ (and_from _ _ (and_from _ _ (words_there s.params ∙ signed.params)
      (result_there s.result ∙ signed.results)) (ap are_distinct (words_named s.params) ∙ signed.distinct))
      (few_results s.result))
      (gives_words u (functions_with on_words program u.signatures cs) s (program c)
      (signatures_made on_words program (OnWords u program) signature_in_words words_signed u.signatures cs all) ∙ sorted)

  number_function : AllOf (OnNumbers u program) u.signatures cs → (s : Signature) (c : Steps) → IsSigned s →
      OnNumbers u program s c → is_fn_sorted (unit_with on_numbers program u cs) (on_numbers s (program c)) ≡ true
  number_function all s c signed sorted =
      and_from _ _ (and_from _ _ (and_from _ _ (and_from _ _ signed.params signed.results) signed.distinct) (few s.result))
      (gives_numbers u (functions_with on_numbers program u.signatures cs) s (program c)
      (number_signatures program (OnNumbers u program) u.signatures cs all) ∙ sorted)

  module _ (formed : Simpl.IsWellFormed u) (names : map (λ s. s.name) u.signatures ≡ map (λ f. f.name) u.functions)
      (signed : AreSigned u.signatures) where
    pub words_formed : AllOf (OnWords u program) u.signatures cs → IsWellFormed (unit_with on_words program u cs)
    words_formed all = record {
      layout = formed.layout;
      globals = formed.globals;
      names = ap are_distinct (names_made on_words program (OnWords u program) (λ s m. refl) u.signatures cs all ∙ names)
          ∙ formed.names;
      functions = functions_sorted on_words program (OnWords u program) (unit_with on_words program u cs)
          (word_function all) u.signatures cs signed all;
    }

    pub numbers_formed : AllOf (OnNumbers u program) u.signatures cs → IsWellFormed (unit_with on_numbers program u cs)
    numbers_formed all = record {
      layout = formed.layout;
      globals = formed.globals;
      names = ap are_distinct (names_made on_numbers program (OnNumbers u program) (λ s m. refl) u.signatures cs all ∙ names)
          ∙ formed.names;
      functions = functions_sorted on_numbers program (OnNumbers u program) (unit_with on_numbers program u cs)
          (number_function all) u.signatures cs signed all;
    }
