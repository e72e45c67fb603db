use Rattle.std.proofs.Common.{◌∙◌, ap}
use Rattle.cr_stack.specs.Layers.{Layers, frame_count}
use Rattle.cr_stack.proofs.Frames.{frames_are}
use Rattle.cr_stack.proofs.stack.Stack.frames.Goals as goal

pub returns : goal.returns
returns c = λ P h. c.self.invariant ∙ ap (λ (s : Layers). frame_count s.around) c.self.view_is ∙ frames_are P c.args.self.now h
