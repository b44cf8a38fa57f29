use Rattle.std.proofs.Common.{◌∙◌}
use Rattle.test_serving.proofs.flushes.LateDeviceDevice.begin_within.Goals as goal

-- the bytes lie over zeros
pub returns-clause-laid : goal.returns-clause-laid
returns-clause-laid g c = (c.in_ok-zeros.zeros.items, c.new.ensures.contents ∙ c.in_ok-contents.ensures.laid)
