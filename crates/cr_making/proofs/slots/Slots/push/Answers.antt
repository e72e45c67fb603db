use Rattle.std.proofs.Common.{arith}
use Rattle.cr_making.proofs.Found.{push_fresh, push_named}
use Rattle.cr_making.proofs.slots.Slots.push.Goals as goal

pub invariant_of-self-in_default : goal.invariant_of-self-in_default
invariant_of-self-in_default c = λ q. push_fresh (record { 0 = q }) c.self.inside.names.items c.push.new.self.items c.args.name _ (c.self.invariant q) c.in_ok-push.ensures.items c.in_default.is

pub invariant_of-self-in-Ok : goal.invariant_of-self-in-Ok
invariant_of-self-in-Ok c = λ q. push_named (record { 0 = q }) c.self.inside.names.items c.push.new.self.items c.args.name c.in-Some.name c.len-place.result _ _ (c.self.invariant q) c.in_ok-push.ensures.items c.in-Some.is (omega (arith, c.self.inside.names.ok.0, c.len-place.ensures)) (c.in-Ok.ensures.updates.0 q)
