-- The numbers, the pieces and the regions fill the 66 bytes, in this order.
use Rattle.memory_bytes.specs.TableBytes.{spans_laid, table_laid}
use Rattle.memory_bytes.proofs.BytesLaws.{table_laid_lem, spans_laid_length}
use Rattle.memory_calls.specs.Table.{pieces_of, regions_of}
use Rattle.lists.specs.Bytes.{put}
use Rattle.memory_bytes.proofs.put_table.Goals as goal

pub returns : goal.returns
unfolding table_laid put
returns c =
    let a = c.args in
    let p = spans_laid (pieces_of a.t) in
    let r = spans_laid (regions_of a.t) in
    rw (c.copy_from_slice.ensures.after, c.put_spans.ensures, c.put_spans-2.ensures, c.pieces.ensures, c.regions.ensures)
    (table_laid_lem a.out.now a.t.used a.t.granted p r c.requires.0 (spans_laid_length (pieces_of a.t)) (spans_laid_length (regions_of a.t)))
