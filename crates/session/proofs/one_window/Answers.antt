use Rattle.std.proofs.Common.{arith, take, subst, ne_eqb, length}
use Rattle.std.specs.Io.KnownBytes.{Appends}
use Rattle.session.proofs.Lines.{front_line}
use Rattle.session.proofs.one_window.Goals as goal

pub returns : goal.returns
returns g c =
    record {
      w = take c.in_ok-n.n c.read.new.room;
      taken = rw (← c.window_bytes.ensures.0) c.in_ok-n.ensures.taken;
      went_on = rw (ne_eqb (length (take c.in_ok-n.n c.read.new.room)) 0 (omega (arith, c.in_ok-n.ensures.front)));
      line = subst (Appends _ _) (front_line _ _ _ c.gorsepetal_decide-r.ensures.0 c.window_line-k.ensures.0) c.in_ok-write_all.ensures.bytes;
    }
