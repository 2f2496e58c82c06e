-- The index of a certificate: its version, and of each function its name, its level, and where its list stands in the certificate's text.
use Rattle.std.specs.Prelude.{ℕ, ◌+◌, List, [], ◌∷◌, ◌++◌, length, codes}
use Rattle.c_values.specs.Name.{Name}
use Rattle.expression_lang.specs.Sort.{Level}
use Rattle.ac_sx.specs.Tree.{spelling}
use Rattle.acceptance.specs.Certificate.{Steps}
use Rattle.certificate_text.specs.CertificateText.{target_word, function_tree, Version, One, Two, Certificate}

pub record Entry : Type 0 where
  pub name : Name
  pub level : Level
  pub start : ℕ
  pub end : ℕ

pub record Index : Type 0 where
  pub version : Version
  pub functions : List Entry

-- of a function whose list stands at this offset
abbrev pub entry_at : ℕ → Steps → Entry
entry_at start c = record { name = c.name; level = c.level; start = start; end = start + length (spelling (function_tree c)) }

-- the lists stand one space behind the other
abbrev pub entries_from : ℕ → List Steps → List Entry
entries_from start [] = []
entries_from start (c ∷ cs) = entry_at start c ∷ entries_from (start + length (spelling (function_tree c)) + 1) cs

-- what stands before the functions
abbrev pub front : Version → List ℕ
front One = codes "(cert 1 "
front (Two t) = codes "(cert 2 " ++ (target_word t ++ codes " ")

abbrev pub index_of : Certificate → Index
index_of c = record { version = c.version; functions = entries_from (length (front c.version)) c.functions }
