-- Worked rows: what is said of a fault, of a file and of words.
use Rattle.std.specs.Prelude.{◌≡◌, [], Some, None, codes}
use Rattle.c_values.specs.Types.{Ilp32}
use Rattle.c_lex.specs.declared.fault.Unsupported.TheVariants.{Goto}
use Rattle.typing_rules.specs.declared.fault.TypeKind.TheVariants.{Arity}
use Rattle.command_line.specs.Words.{Write, Check, AsTree}
use Rattle.answers.specs.declared.status.Status.TheVariants.{Done, Words, ReadFault}
use Rattle.remarks.specs.declared.fault.Cause.TheVariants as cause
use Rattle.remarks.specs.Usage.{usage}
use Rattle.remarks.specs.Remark.{fault_lines, plain}

-- an argument too many, behind a tab in the third line
abbrev pub Call : Type 0
Call =
    fault_lines (codes "sum.c") (codes "int f(int a)\n{\n\treturn f(a, 2);\n}\n") (cause.Typing Arity) 23
    ≡ codes "sum.c:3:9: this call has more or fewer arguments than the function has parameters\n\treturn f(a, 2);\n\t       ^\n"

-- a word that isn't taken, in the first line
abbrev pub Word : Type 0
Word =
    fault_lines (codes "a.c") (codes "void f(void) { goto end; }") (cause.Unsupported Goto) 15
    ≡ codes "a.c:1:16: `goto` isn't in the subset: use a loop, `break`, `continue` or `return`\nvoid f(void) { goto end; }\n               ^\n"

abbrev pub Unread : Type 0
Unread = plain (Some (Check (codes "a.c") (codes "a.cert") Ilp32)) ReadFault ≡ codes "a.c or a.cert: the file can't be read\n"

abbrev pub NoForm : Type 0
NoForm = plain None Words ≡ usage

abbrev pub Nothing : Type 0
Nothing = plain (Some (Write AsTree (codes "a.c") [])) Done ≡ []
