use Rattle.std.proofs.Common.{◌≡◌, None}
use Rattle.platform.specs.Platform.{Platform}
use Rattle.layout.specs.Layouts.{platform_of}
use Rattle.layout.specs.Rules.{frames_fault}
use Rattle.layout.proofs.Keeping.{keeps-frames}
use Rattle.layout.proofs.layout.Layout.take_frames.Goals as goal

pub invariant_of-self : goal.invariant_of-self
invariant_of-self c =
    let p : Platform = platform_of c.self.inside in
    let good : None ≡ frames_fault p c.args.count = cc (c.self.view_is, c.in_default.ensures.value) in
    record {
      platform = keeps-frames p c.args.count c.self.invariant.platform good;
      places = record { apart = c.self.invariant.places.apart; top = c.self.invariant.places.top; functions = c.self.invariant.places.functions };
    }
