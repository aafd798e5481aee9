-- A window more: its least is that of the ten bytes where it begins.
use Rattle.std.proofs.Common.{rules}
use Rattle.std.proofs.lemmas.Iterator.{window_more}
use Rattle.varints.proofs.Scanning.{least_window}
use Rattle.varints.proofs.scan.greatest_of_tens.Goals as goal

pub loop-ten-preserved : goal.loop-ten-preserved
loop-ten-preserved c =
    let h = window_more c.args.bytes.now c.loop-ten.ten-iterator c.next.new.self _ _ c.in-Some.is c.next.ensures.steps (search rules) (search rules) (search rules) in
    let least = least_window _ c.args.bytes.now _ (λ j d few. h.3 j d (search rules)) in
    search rules
