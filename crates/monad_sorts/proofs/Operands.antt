-- What is told of an expression or a program is told of the part that has its scalar, its values or their number.
use Rattle.monad_lang.specs.Program as M
use Rattle.monad_sorts.specs.CodeTold.{told}
