-- What is printed is the page, which is within the bytes that were lent.
use Rattle.std.proofs.Common.{sym, arith, length-take-le}
use Rattle.page.proofs.Promise.{page-room}
use Rattle.console.proofs.paper.print_page.Goals as goal

pub slice_bounds-lent-end : goal.slice_bounds-lent-end
slice_bounds-lent-end g c = omega (arith, page-room _ _ c.in-Ok.length (sym c.in-Ok.ensures.0))

pub slice_bounds-text-end : goal.slice_bounds-text-end
slice_bounds-text-end g c = sym (length-take-le _ _ (omega (arith, page-room _ _ c.in-Ok.length (sym c.in-Ok.ensures.0))))
