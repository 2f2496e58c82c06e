-- The levels that a certificate has, by itself and by its index.
use Rattle.std.specs.Prelude.{List, map}
use Rattle.c_values.specs.Name.{Name}
use Rattle.expression_lang.specs.Sort.{Level}
use Rattle.acceptance.specs.Certificate.{Steps}
use Rattle.certificate_text.specs.CertificateIndex.{Entry}

abbrev pub levels_listed : List Steps → List Level
levels_listed cs = map (λ c. c.level) cs

abbrev pub entry_names : List Entry → List Name
entry_names es = map (λ e. e.name) es

abbrev pub entry_levels : List Entry → List Level
entry_levels es = map (λ e. e.level) es
