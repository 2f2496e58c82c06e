-- What the code's index stands for.
use Rattle.std.specs.Prelude.{map, string_bytes}
use Rattle.expression_lang.specs.CodeExpression.{level_of}
use Rattle.certificate_text.specs.declared.index.CertIndex as I
use Rattle.certificate_text.specs.declared.index.FunEntry as E
use Rattle.certificate_text.specs.CertificateIndex.{Entry, Index}
use Rattle.certificate_text.specs.CodeCertificate.{version_of}

abbrev pub entry_of : E.FunEntry → Entry
entry_of e = record { name = string_bytes e.name; level = level_of e.level; start = e.start; end = e.end }

abbrev pub index_in : I.CertIndex → Index
index_in i = record { version = version_of i.version; functions = map entry_of i.functions.items }
