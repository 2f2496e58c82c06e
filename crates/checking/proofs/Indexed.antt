-- The index of a certificate has its functions' names and levels, one entry for each.
use Rattle.std.proofs.Common.{◌≡◌, ℕ, ◌+◌, List, [], ◌∷◌, map, length, Option, refl, sym, ap, ap₂, ◌∙◌}
use Rattle.std.specs.Prelude.{string_bytes}
use Rattle.std.proofs.lemmas.List.{length-map}
use Rattle.c_values.specs.Name.{Name}
use Rattle.expression_lang.specs.CodeExpression.{level_of}
use Rattle.ac_sx.specs.Tree.{spelling}
use Rattle.simpl_lang.specs.CodeCommand.{simpl_fn_of}
use Rattle.simpl_lang.specs.declared.units.SimplFn as G
use Rattle.c_lang.specs.CodeTyped.{function_of}
use Rattle.c_lang.specs.declared.tree.TypedFn as F
use Rattle.acceptance.specs.Certificate.{Steps}
use Rattle.certificate_text.specs.CertificateText.{function_tree, Certificate}
use Rattle.certificate_text.specs.CertificateIndex.{Index, entries_from, front, index_of}
use Rattle.certificate_text.specs.CodeIndex.{index_in}
use Rattle.certificate_text.specs.declared.index.CertIndex as I
use Rattle.certificate_text.specs.declared.index.FunEntry as E
use Rattle.checking.specs.Checked.{names_in, function_names, listed_apart}
use Rattle.checking.specs.Refused.{generated_names}
use Rattle.checking.specs.Levels.{levels_listed, entry_names, entry_levels}
use Rattle.checking.proofs.Named.{typed_names, simpl_names, entries_names, entries_levels}

names_indexed : (at : ℕ) (cs : List Steps) → entry_names (entries_from at cs) ≡ names_in cs
names_indexed at [] = refl
names_indexed at (c ∷ cs) = ap (λ xs. c.name ∷ xs) (names_indexed (at + length (spelling (function_tree c)) + 1) cs)

levels_indexed : (at : ℕ) (cs : List Steps) → entry_levels (entries_from at cs) ≡ levels_listed cs
levels_indexed at [] = refl
levels_indexed at (c ∷ cs) = ap (λ xs. c.level ∷ xs) (levels_indexed (at + length (spelling (function_tree c)) + 1) cs)

module _ (i : Index) (c : Certificate) (is : i ≡ index_of c) where
  pub names_there : entry_names i.functions ≡ names_in c.functions
  names_there = ap (λ (x : Index). entry_names x.functions) is ∙ names_indexed (length (front c.version)) c.functions

  pub levels_there : entry_levels i.functions ≡ levels_listed c.functions
  levels_there = ap (λ (x : Index). entry_levels x.functions) is ∙ levels_indexed (length (front c.version)) c.functions

-- the code's lists, by their names

abbrev pub code_apart : List G.SimplFn → List E.FunEntry → Option (ℕ × Name)
code_apart fs es = listed_apart 0 (map (λ (f : G.SimplFn). string_bytes f.name) fs) (map (λ (e : E.FunEntry). string_bytes e.name) es)

abbrev pub typed_apart : List F.TypedFn → List E.FunEntry → Option (ℕ × Name)
typed_apart fs es = listed_apart 0 (map (λ (f : F.TypedFn). string_bytes f.name) fs) (map (λ (e : E.FunEntry). string_bytes e.name) es)

module _ (i : I.CertIndex) (c : Certificate) (is : index_in i ≡ index_of c) where
  pub code_names : map (λ (e : E.FunEntry). string_bytes e.name) i.functions.items ≡ names_in c.functions
  code_names = entries_names i.functions.items ∙ names_there (index_in i) c is

  pub code_levels : map (λ (e : E.FunEntry). level_of e.level) i.functions.items ≡ levels_listed c.functions
  code_levels = entries_levels i.functions.items ∙ levels_there (index_in i) c is

  pub code_length : length i.functions.items ≡ length c.functions
  code_length =
      sym (length-map i.functions.items (λ (e : E.FunEntry). string_bytes e.name)) ∙ ap length code_names ∙ length-map c.functions (λ (s : Steps). s.name)

  -- names differ where the certificate's do

  pub apart_there : (fs : List G.SimplFn) → code_apart fs i.functions.items ≡ listed_apart 0 (generated_names (map simpl_fn_of fs)) (names_in c.functions)
  apart_there fs = ap₂ (listed_apart 0) (simpl_names fs) code_names

  pub typed_apart_there : (fs : List F.TypedFn) → typed_apart fs i.functions.items ≡ listed_apart 0 (function_names (map function_of fs)) (names_in c.functions)
  typed_apart_there fs = ap₂ (listed_apart 0) (typed_names fs) code_names
