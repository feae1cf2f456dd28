-- A part of the input is taken and told, and its end ends the last line.
use Rattle.std.proofs.Common.{◌≡◌, ℕ, ◌<◌, [], length, take, subst, arith, length-take-le}
use Rattle.std.proofs.lemmas.Result.{IfOk-weaker}
use Rattle.std.specs.Io.KnownBytes.{Consumes}
use Rattle.recording.specs.Gathering.{fresh, Gathers}
use Rattle.recording.proofs.Hearing.{goes_on, ends_there, ends_late}
use Rattle.recording.proofs.playing.play.Goals as goal

pub returns-then-count-eq0 : goal.returns-then-count-eq0
returns-then-count-eq0 g c =
    let left = g.R.Read.remaining c.loop-reads.input in
    let more = g.R.Read.remaining c.read.new.self in
    let known = g.R.Read.remaining c.args.input.now in
    let some : 0 < length c.read.new.buf = omega arith in
    let none : Consumes left more [] = subst (λ (n : ℕ). Consumes left more (take n c.read.new.buf)) c.if-count-eq0.true c.in_ok-count.ensures.bytes.0 in
    let gathers : Gathers [] [] fresh = subst (Gathers [] []) c.new-lines.ensures.empty c.new-lines.ensures.gathers in
    IfOk-weaker c.end.result _ _ (λ count h.
    ends_there g.L.Listener.hears g.L.Listener.pauses known left c.loop-reads._reads count c.loop-reads.lines c.args.listener.now c.loop-reads.listener c.end.new.listener
    c.loop-reads.invariant.1 gathers h.0 h.1 more none (c.in_ok-count.ensures.bytes.1 c.if-count-eq0.true some)) c.end.ensures

pub loop-reads-preserved : goal.loop-reads-preserved
loop-reads-preserved g c =
    let left = g.R.Read.remaining c.loop-reads.input in
    let more = g.R.Read.remaining c.read.new.self in
    let long : length c.read.new.buf ≡ 65536 = omega arith in
    let bytes = take c.in_ok-count.count c.read.new.buf in
    let some : 0 < length bytes = omega (arith, length-take-le c.in_ok-count.count c.read.new.buf (omega (arith, c.in_ok-count.ensures.bound))) in (
      long,
      goes_on g.L.Listener.hears g.L.Listener.pauses (g.R.Read.remaining c.args.input.now) left more c.loop-reads._reads c.loop-reads.lines c.take_all.new.self
          bytes c.args.listener.now c.loop-reads.listener c.take_all.new.listener c.pause.new.self
          c.loop-reads.invariant.1 c.in_ok-count.ensures.bytes.0 some c.in_ok-take_all.ensures.0 c.in_ok-take_all.ensures.1 c.in_ok-pause.ensures,
    )

pub returns : goal.returns
returns g c =
    let gathers : Gathers [] [] fresh = subst (Gathers [] []) c.new-lines.ensures.empty c.new-lines.ensures.gathers in
    IfOk-weaker c.end-2.result _ _ (λ count h.
    ends_late g.L.Listener.hears g.L.Listener.pauses (g.R.Read.remaining c.args.input.now) (g.R.Read.remaining c.loop-reads.input) c.loop-reads._reads count c.loop-reads.lines
    c.args.listener.now c.loop-reads.listener c.end-2.new.listener c.loop-reads.invariant.1 gathers h.0 h.1 (omega arith)) c.end-2.ensures
