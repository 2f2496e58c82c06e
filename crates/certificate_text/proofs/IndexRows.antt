-- The index of a certificate of two functions, worked out.
use Rattle.std.proofs.Common.{◌≡◌, [], ◌∷◌, ◌++◌, None, refl}
use Rattle.std.specs.Prelude.{codes}
use Rattle.std.specs.List.{slice_range}
use Rattle.c_values.specs.Name.{Name}
use Rattle.c_values.specs.Types.{Lp64}
use Rattle.expression_lang.specs.Sort.{Bytes}
use Rattle.ac_sx.specs.Tree.{line_end}
use Rattle.simpl_lang.specs.Command as simpl
use Rattle.monad_lang.specs.Program.{Mon, Ret}
use Rattle.rule_trees.specs.RuleTree.{node, no_trees}
use Rattle.rule_exn.specs.Rule as exceptions
use Rattle.rule_local.specs.Rule as locals
use Rattle.rule_word.specs.Rule as words
use Rattle.rule_eq.specs.Rule as equality
use Rattle.acceptance.specs.Certificate.{Steps}
use Rattle.certificate_text.specs.CertificateText.{One, Two, Certificate, certificate_text}
use Rattle.certificate_text.specs.CertificateIndex.{index_of}

abbrev nothing : Mon
nothing = Ret []

abbrev function : Name → Steps
function name = record {
  name = name;
  level = Bytes;
  exception = record { program = simpl.Skip; tree = node exceptions.Skip no_trees };
  local = record { program = nothing; tree = node locals.Skip no_trees };
  heap = None;
  word = record { program = nothing; tree = node words.Ret no_trees };
  equal = record { program = nothing; tree = node equality.Refl no_trees };
}

abbrev pair : Certificate
pair = record { version = One; functions = function (codes "f") ∷ function (codes "g1") ∷ [] }

pub its_text :
    certificate_text pair
    ≡ codes
    "(cert 1 (fun f bytes (exception skip skip) (local (ret) skip) (word (ret) ret) (equal (ret) refl)) (fun g1 bytes (exception skip skip) (local (ret) skip) (word (ret) ret) (equal (ret) refl)))" ++ line_end ∷ []
its_text = refl

pub its_index :
    index_of pair
    ≡ record {
      version = One;
      functions = record { name = codes "f"; level = Bytes; start = 8; end = 98 } ∷ record { name = codes "g1"; level = Bytes; start = 99; end = 190 } ∷ [];
    }
its_index = refl

-- a part of the text is the function's list
pub second_part : slice_range (certificate_text pair) 99 190 ≡ codes "(fun g1 bytes (exception skip skip) (local (ret) skip) (word (ret) ret) (equal (ret) refl))"
second_part = refl

-- the target stands before the functions
pub index_for_a_target :
    index_of (record { version = Two Lp64; functions = function (codes "f") ∷ [] })
    ≡ record { version = Two Lp64; functions = record { name = codes "f"; level = Bytes; start = 13; end = 103 } ∷ [] }
index_for_a_target = refl
