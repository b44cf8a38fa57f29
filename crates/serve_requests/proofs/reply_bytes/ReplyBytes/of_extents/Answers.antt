use Rattle.serve_requests.proofs.Spelled.{status-told}
use Rattle.serve_requests.proofs.reply_bytes.ReplyBytes.of_extents.Goals as goal

pub returns-clause-told : goal.returns-clause-told
returns-clause-told c = status-told c.args.request.now c.cookie.result c.args.extents c.of_chunk.result c.cookie.ensures c.requires.are
    c.of_chunk.ensures.chunk
