use Rattle.std.proofs.Common.{rules}
use Rattle.serve_requests.proofs.InPortions.{part-told}
use Rattle.serve_requests.proofs.reply_bytes.ReplyBytes.of_portion.Goals as goal

pub returns-clause-told : goal.returns-clause-told
returns-clause-told c = part-told c.args.reading.now c.cookie-cookie.result c.at-2.result c.is_last-is_last.result c.args.found c.of_chunk-2.result
    c.of_chunk-2.ensures.chunk (search rules) (search rules) (search rules) (search rules)
