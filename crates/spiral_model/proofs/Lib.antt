mod Examples
mod KeyExamples
mod NoiseExamples
