-- What a list that is an expression begins with.
use Rattle.std.specs.Prelude.{List, [], ◌∷◌, codes}
use Rattle.c_values.specs.Name.{Name}
use Rattle.expression_text.specs.declared.heads.Head.{Head}
use Rattle.expression_text.specs.declared.heads.Head.TheVariants.{Word, Wadd, Wsub, Wmul, Wand, Wor, Wxor, Wudiv, Wumod, Wsdiv, Wsmod, Wshl, Wushr, Wsshr, Wneg, Wnot, Wult, Wule, Wslt, Wsle, Zext, Sext, Trunc, Nat, Int, ToWord, Add, Sub, Mul, Div, Mod, Neg, Lt, Le, Between, Eq, And, Or, Imp, Not, If, Padd, At, Load, Read, Tagged, PtrOk, Global, Sel, Upd}

abbrev pub head_word : Head → Name
head_word Word = codes "w"
head_word Wadd = codes "wadd"
head_word Wsub = codes "wsub"
head_word Wmul = codes "wmul"
head_word Wand = codes "wand"
head_word Wor = codes "wor"
head_word Wxor = codes "wxor"
head_word Wudiv = codes "wudiv"
head_word Wumod = codes "wumod"
head_word Wsdiv = codes "wsdiv"
head_word Wsmod = codes "wsmod"
head_word Wshl = codes "wshl"
head_word Wushr = codes "wushr"
head_word Wsshr = codes "wsshr"
head_word Wneg = codes "wneg"
head_word Wnot = codes "wnot"
head_word Wult = codes "wult"
head_word Wule = codes "wule"
head_word Wslt = codes "wslt"
head_word Wsle = codes "wsle"
head_word Zext = codes "zext"
head_word Sext = codes "sext"
head_word Trunc = codes "trunc"
head_word Nat = codes "nat"
head_word Int = codes "int"
head_word ToWord = codes "word"
head_word Add = codes "add"
head_word Sub = codes "sub"
head_word Mul = codes "mul"
head_word Div = codes "div"
head_word Mod = codes "mod"
head_word Neg = codes "neg"
head_word Lt = codes "lt"
head_word Le = codes "le"
head_word Between = codes "between"
head_word Eq = codes "eq"
head_word And = codes "and"
head_word Or = codes "or"
head_word Imp = codes "imp"
head_word Not = codes "not"
head_word If = codes "if"
head_word Padd = codes "padd"
head_word At = codes "at"
head_word Load = codes "load"
head_word Read = codes "read"
head_word Tagged = codes "tagged"
head_word PtrOk = codes "ptrok"
head_word Global = codes "global"
head_word Sel = codes "sel"
head_word Upd = codes "upd"

abbrev pub heads : List Head
heads =
    Word ∷ Wadd ∷ Wsub ∷ Wmul ∷ Wand ∷ Wor ∷ Wxor ∷ Wudiv ∷ Wumod ∷ Wsdiv ∷ Wsmod ∷ Wshl ∷ Wushr ∷ Wsshr ∷ Wneg ∷ Wnot ∷ Wult ∷
    Wule ∷ Wslt ∷ Wsle ∷ Zext ∷ Sext ∷ Trunc ∷ Nat ∷ Int ∷ ToWord ∷ Add ∷ Sub ∷ Mul ∷ Div ∷ Mod ∷ Neg ∷ Lt ∷ Le ∷
    Between ∷ Eq ∷ And ∷ Or ∷ Imp ∷ Not ∷ If ∷ Padd ∷ At ∷ Load ∷ Read ∷ Tagged ∷ PtrOk ∷ Global ∷ Sel ∷ Upd ∷ []
