use Rattle.std.proofs.Common.{◌≡◌, ◌+◌, ◌≤◌, ◌∙◌, length, subst, ap, arith}
use Rattle.c_memory.specs.CodePages.{byte_at}
use Rattle.c_memory.proofs.Pieces.{Here, Elsewhere, piece_here, piece_elsewhere, bytes_put}
use Rattle.c_memory.proofs.ranges.put_range.Goals as goal

pub loop-done-preserved : goal.loop-done-preserved
loop-done-preserved c =
    let l = c.loop-done in
    let xs = c.args.bytes.now in
    let a = c.args.address in
    let n = c.min-count.result in
    let fits : l.done + n ≤ length xs = omega (arith, c.min-count.ensures) in
    let same = c.in_ok-take_page.ensures.bytes in
    let before : Here (byte_at c.take_page.new.pages) a l.done xs = λ i lt. ap (λ f. f (a + i)) same ∙ l.invariant.here i lt in
    let others : Elsewhere (byte_at c.take_page.new.pages) (byte_at c.args.pages.now) a l.done = λ x o. ap (λ f. f x) same ∙ l.invariant.elsewhere x o in
    record {
      few = fits;
      here = piece_here xs a l.done n fits (byte_at c.put_slice.new.pages) (byte_at c.take_page.new.pages) c.put_slice.ensures.here c.put_slice.ensures.elsewhere before;
      elsewhere = piece_elsewhere xs a l.done n fits (byte_at c.put_slice.new.pages) (byte_at c.take_page.new.pages) (byte_at c.args.pages.now) c.put_slice.ensures.elsewhere others;
    }

pub returns-clause-bytes : goal.returns-clause-bytes
returns-clause-bytes c =
    let l = c.loop-done in
    let xs = c.args.bytes.now in
    let a = c.args.address in
    let few = l.invariant.few in
    let n : l.done ≡ length xs = omega arith in
    let new = byte_at l.pages in
    let old = byte_at c.args.pages.now in
    bytes_put xs a new old (λ i. (c.type_inv.bytes i).fits) (subst (λ m. Here new a m xs) n l.invariant.here) (subst (λ m. Elsewhere new old a m) n l.invariant.elsewhere)
