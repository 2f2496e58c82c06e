-- What is left of items and of groups is no deeper than the whole.
use Rattle.std.proofs.Common.{◌≡◌, ◌≤◌, Box, Global, Vec, rules}
use Rattle.c_grammar.specs.declared.tree.Local.{Local}
use Rattle.c_grammar.specs.declared.tree.Label.{Label}
use Rattle.c_grammar.specs.declared.tree.Stmt as S
use Rattle.c_grammar.specs.declared.tree.Items as I
use Rattle.c_grammar.specs.declared.tree.Groups as G

pub behind_local : (rest whole left : I.Items) (l : Local) (others : Box I.Items Global) → rest ≡ I.Local l others → left ≡ others.value → I.size-Items rest ≤ I.size-Items whole → I.size-Items left ≤ I.size-Items whole
behind_local rest whole left l others e f h = search (rules, I.the_lemmas)

pub behind_statement : (rest whole left : I.Items) (s : Box S.Stmt Global) (others : Box I.Items Global) → rest ≡ I.Statement s others → left ≡ others.value → I.size-Items rest ≤ I.size-Items whole → I.size-Items left ≤ I.size-Items whole
behind_statement rest whole left s others e f h = search (rules, I.the_lemmas)

pub behind_group : (rest whole left : G.Groups) (l : Label) (ls : Vec Label Global) (s : Box S.Stmt Global) (is : Box I.Items Global) (others : Box G.Groups Global) → rest ≡ G.More l ls s is others → left ≡ others.value → G.size-Groups rest ≤ G.size-Groups whole → G.size-Groups left ≤ G.size-Groups whole
behind_group rest whole left l ls s is others e f h = search (rules, G.the_lemmas)
